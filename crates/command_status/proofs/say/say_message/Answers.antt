use Rattle.std.proofs.Common.{[], ◌∷◌, codes, append_assoc, sym}
use Rattle.command_status.proofs.Saying.{one_said}
use Rattle.command_status.proofs.say.say_message.Goals as goal

pub returns-in-Exists : goal.returns-in-Exists
returns-in-Exists g c = rw (c.in-Exists.is, sym c.as_bytes.ensures.value, append_assoc c.as_bytes.result.now (codes " exists") (10 ∷ [])) c.say_three.ensures

pub returns-in-NotFound : goal.returns-in-NotFound
returns-in-NotFound g c = rw (c.in-NotFound.is, sym c.as_str.ensures, sym c.as_bytes-in-NotFound.ensures.value, append_assoc c.as_bytes-in-NotFound.result.now (codes " not found") (10 ∷ [])) c.say_three-in-NotFound.ensures

pub returns-in-Image : goal.returns-in-Image
returns-in-Image g c = rw (c.in-Image.is, sym c.image_kind.ensures) c.say_three-in-Image.ensures

pub returns-in-ReadFault : goal.returns-in-ReadFault
returns-in-ReadFault g c = rw (c.in-ReadFault.is, sym c.as_str-in-ReadFault.ensures, sym c.as_bytes-in-ReadFault.ensures.value) c.say_three-in-ReadFault.ensures

pub returns-in-WriteFault : goal.returns-in-WriteFault
returns-in-WriteFault g c = rw c.in-WriteFault.is (one_said c.say.ensures.cause c.say.ensures.says c.say.ensures.heard)

pub returns-in-Memory : goal.returns-in-Memory
returns-in-Memory g c = rw c.in-Memory.is (one_said c.say-in-Memory.ensures.cause c.say-in-Memory.ensures.says c.say-in-Memory.ensures.heard)

pub returns-in-Later : goal.returns-in-Later
returns-in-Later g c = rw c.in-Later.is (one_said c.say-in-Later.ensures.cause c.say-in-Later.ensures.says c.say-in-Later.ensures.heard)
