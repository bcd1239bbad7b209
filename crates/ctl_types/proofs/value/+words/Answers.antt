use Rattle.ctl_types.proofs.Flat.{flat_is_list, flat_is_fields}
use Rattle.ctl_types.proofs.value.+words.Goals as goal

pub Value::append_words-returns-in-List : goal.Value::append_words-returns-in-List
Value::append_words-returns-in-List t c = rw (flat_is_list _ _ _ c.in-List.is c.as_slice.ensures) c.append_all.ensures

pub Value::append_words-returns-in-Fields : goal.Value::append_words-returns-in-Fields
Value::append_words-returns-in-Fields t c = rw (flat_is_fields _ _ _ c.in-Fields.is c.as_slice-in-Fields.ensures) c.append_all-in-Fields.ensures
