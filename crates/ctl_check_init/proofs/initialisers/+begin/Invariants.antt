use Rattle.std.proofs.Common.{◌≡◌, map, drop}
use Rattle.ctl_check_init.specs.Initialisers.{begun, left_over, elements_begun, no_elements, fields_begun, no_parts, shapes_of}
use Rattle.ctl_check_init.proofs.initialisers.+begin.Given as goal

abbrev pub invariant-begin_left_over-loop-part : goal.invariant-begin_left_over-loop-part
invariant-begin_left_over-loop-part l = left_over (map (begun l.scope l.definitions) (drop l.part-index l.parts)) ≡ left_over (map (begun l.scope l.definitions) l.parts)

abbrev pub invariant-begin_elements-loop-element : goal.invariant-begin_elements-loop-element
invariant-begin_elements-loop-element l = elements_begun l.inner (map (begun l.scope l.definitions) (drop l.element-index l.elements)) l.before ≡ elements_begun l.inner (map (begun l.scope l.definitions) l.elements) no_elements

abbrev pub invariant-begin_fields-loop-part : goal.invariant-begin_fields-loop-part
invariant-begin_fields-loop-part l = fields_begun (shapes_of l.rest) (map (begun l.scope l.definitions) (drop l.part-index l.parts)) l.before ≡ fields_begun (shapes_of l.fn.fields) (map (begun l.scope l.definitions) l.parts) no_parts
