use Rattle.module_path.proofs.AtMostOne.{at_most_one}
use Rattle.module_path.proofs.laws.at_most_one.Goals as goal

pub returns : goal.returns
returns c = at_most_one (record {
  one_list = c.one_list.ensures;
  one_fault = c.one_fault.ensures;
  faults_have_no_tokens = c.faults_have_no_tokens.ensures;
  one_module = c.one_module.ensures;
  tokens_are_spelt = c.tokens_are_spelt.ensures;
  one_syntax_fault = c.one_syntax_fault.ensures;
  faults_spell_none = c.faults_spell_none.ensures;
})
