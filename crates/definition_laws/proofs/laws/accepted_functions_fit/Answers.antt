use Rattle.definition_laws.proofs.Bodies.{blocks_all_well}
use Rattle.definition_laws.proofs.Functions.{functions_all_fit}
use Rattle.definition_laws.proofs.laws.accepted_functions_fit.Goals as goal

pub returns : goal.returns
returns c = functions_all_fit (record {
  initialisers = c.initialisers_are_well.ensures;
  sound = c.initialisers_are_sound.ensures.plain;
  words = c.words_are_counted.ensures;
  found = c.found_is_there.ensures;
  scopes = c.scopes_stay.ensures;
  blocks = blocks_all_well (record {
    found = c.found_is_there.ensures;
    scopes = c.scopes_stay.ensures;
    typed = c.typed_is_well_typed.ensures;
    calls = c.typed_call_is_well_typed.ensures;
    tests = c.tests_are_bool.ensures;
    assignments = c.assignments_are_well.ensures;
    returns = c.returns_are_well.ensures;
    initialisers = c.initialisers_are_well.ensures;
  });
  grow = c.beside_grows.ensures;
})
