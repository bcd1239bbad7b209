use Rattle.module_path.proofs.First.{asks_for_the_first}
use Rattle.module_path.proofs.laws.asks_for_the_first.Goals as goal

pub returns : goal.returns
returns c = asks_for_the_first (record {
  one_list = c.one_list.ensures;
  one_fault = c.one_fault.ensures;
  faults_have_no_tokens = c.faults_have_no_tokens.ensures;
  one_module = c.one_module.ensures;
  tokens_are_spelt = c.tokens_are_spelt.ensures;
  one_syntax_fault = c.one_syntax_fault.ensures;
  faults_spell_none = c.faults_spell_none.ensures;
})
