use Rattle.module_path.proofs.Texts.{printable_text}
use Rattle.module_path.proofs.reading.as_text.Goals as goal

pub returns-in-Err : goal.returns-in-Err
returns-in-Err c = absurd (c.in-Err.ensures.cases.0 (printable_text c.args.name.now c.requires))
