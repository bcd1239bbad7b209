-- What options and plain words ask for, one after another, and the command that they make together.
use Rattle.std.specs.Prelude.{ℕ, ℤ, pos, List, [], ◌∷◌, length, map, count_by, Bool, true, false, ◌&&◌, ◌||◌, not, if◌then◌else◌, nat_lt, nat_le, nat_eq, Option, Some, None}
use Rattle.std.specs.Option.{is_some, unwrap_or}
use Rattle.std.specs.List.{filter_map, list_any, last_or, cons_option}
use Rattle.ctl_base.specs.declared.limits.TheConstants.{STAGES}
use Rattle.command_line.specs.declared.command.Command.{Command}
use Rattle.command_line.specs.declared.command.Param.{Param as Parameter}
use Rattle.command_line.specs.declared.command.StageFile.{StageFile}
use Rattle.command_line.specs.declared.item.Item.{Item}
use Rattle.command_line.specs.declared.item.Item.TheVariants as item
use Rattle.command_line.specs.declared.option.Kind.{Kind}
use Rattle.command_line.specs.declared.option.Kind.TheVariants.{Plain, Stage, Param, Format, Force, Watch, Verbose, Make}
use Rattle.command_line.specs.Options.{numbers}
use Rattle.command_line.specs.Following.{Value, Text, Raw, Natural}

-- ---- what values say, which are those of an option

abbrev pub first_text : List Value → List ℕ
first_text (Text bytes ∷ values) = bytes
first_text values = []

abbrev pub first_natural : List Value → ℕ
first_natural (Natural n ∷ values) = n
first_natural values = 0

-- 0 where there is none
abbrev pub first_raw : List Value → ℤ
first_raw (Raw x ∷ values) = x
first_raw values = pos 0

abbrev pub rest : {A : Type 0} → List A → List A
rest [] = []
rest (value ∷ values) = values

abbrev pub three_raws : List Value → List ℤ
three_raws values = first_raw values ∷ first_raw (rest values) ∷ first_raw (rest (rest values)) ∷ []

-- What an option asks for with the values of the words that follow it, or a plain word.
abbrev pub item_of : List ℕ → Kind → List Value → Item
item_of word Plain values = item.Plain word
item_of word Stage values = item.Stage (first_text values)
item_of word (Param is_global count) values = item.Param is_global (record { name = first_text values; count = length (numbers count); values = three_raws (rest values) })
item_of word Format values = item.Format (first_natural values)
item_of word Force values = item.Force
item_of word Watch values = item.Watch (first_natural values)
item_of word Verbose values = item.Verbose
item_of word Make values = item.Make (first_natural values)

-- ---- one item

abbrev pub plain_in : Item → Option (List ℕ)
plain_in (item.Plain word) = Some word
plain_in other = None

abbrev pub file_in : Item → Option (List ℕ)
file_in (item.Stage file) = Some file
file_in other = None

abbrev pub is_plain : Item → Bool
is_plain item = is_some (plain_in item)

abbrev pub is_stage : Item → Bool
is_stage item = is_some (file_in item)

-- a parameter of the stage before it
abbrev pub own_in : Item → Option Parameter
own_in (item.Param false parameter) = Some parameter
own_in other = None

-- a parameter of all stages
abbrev pub global_in : Item → Option Parameter
global_in (item.Param true parameter) = Some parameter
global_in other = None

abbrev pub depth_in : Item → Option ℕ
depth_in (item.Format depth) = Some depth
depth_in other = None

abbrev pub is_force : Item → Bool
is_force item.Force = true
is_force other = false

abbrev pub is_watch : ℕ → Item → Bool
is_watch kind (item.Watch asked) = nat_eq asked kind
is_watch kind other = false

abbrev pub is_verbose : Item → Bool
is_verbose item.Verbose = true
is_verbose other = false

abbrev pub number_in : Item → Option ℕ
number_in (item.Make n) = Some n
number_in other = None

-- ---- all items

-- the plain words
abbrev pub plains : List Item → List (List ℕ)
plains items = filter_map plain_in items

-- the number of `-make`, which can only be the first
abbrev pub made : List Item → Option ℕ
made [] = None
made (item ∷ items) = number_in item

-- the parameters of a stage, which stand before the next
abbrev pub own_params : List Item → List Parameter
own_params [] = []
own_params (item ∷ items) = if is_stage item then [] else cons_option (own_in item) (own_params items)

-- A stage is begun by its file.
abbrev pub stage_before : Option (List ℕ) → List Item → List StageFile → List StageFile
stage_before None items stages = stages
stage_before (Some file) items stages = record { file = file; params = own_params items } ∷ stages

abbrev pub stages : List Item → List StageFile
stages [] = []
stages (item ∷ items) = stage_before (file_in item) items (stages items)

-- nothing where there is none
abbrev pub first_word : List (List ℕ) → List ℕ
first_word [] = []
first_word (word ∷ words) = word

-- The command.
unfoldable pub command_of : List Item → Command
command_of items = record {
  stages = stages items;
  globals = filter_map global_in items;
  format = unwrap_or (last_or None (filter_map depth_in items)) 0;
  force = list_any is_force items;
  watch = map (λ kind. list_any (is_watch kind) items) (1 ∷ 2 ∷ 3 ∷ 4 ∷ []);
  verbose = list_any is_verbose items;
  make = made items;
  source = first_word (plains items);
  destination = first_word (rest (plains items));
}

-- Whether an option or a plain word may stand behind these items. Behind `-make` only `-watch` and `-verbose` may, and
-- no stage stands there.
abbrev pub may_follow : List Item → Kind → Bool
may_follow items Plain = not (is_some (made items)) && nat_lt (count_by is_plain items) 2
may_follow items Stage = not (is_some (made items)) && nat_lt (count_by is_stage items) STAGES
may_follow items (Param false count) = list_any is_stage items
may_follow items (Param true count) = not (is_some (made items))
may_follow items Format = not (is_some (made items))
may_follow items Force = not (is_some (made items))
may_follow items Watch = true
may_follow items Verbose = true
may_follow items Make = nat_eq (length items) 0

-- Nothing is missing: a stage, the source and the destination are there, or `-make` is.
abbrev pub is_whole : List Item → Bool
is_whole items = is_some (made items) || (list_any is_stage items && nat_le 2 (count_by is_plain items))
