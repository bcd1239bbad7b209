-- An order of symbols in which each move without a token goes down, so that the machine reads, stops or ends after some moves.
use Rattle.std.specs.Prelude.{ℕ, ◌+◌, ◌-◌, ◌&&◌, ◌||◌, ◌==◌, List, [], ◌∷◌, Bool, true, false, not, cond, nat_lt}
use Rattle.ctl_tree.specs.Names.{operator_levels}
use Rattle.grammar_machine.specs.Machine.{Symbol, Move}
use Rattle.grammar_machine.specs.Machine.Symbol.{TheSign, TheName, TheOne, ImportText, QualifiedName, MoreNames, MayInt, Operand, Links, UnaryForm, Postfix, Steps, CallOrName, Arguments, MoreArguments, Sizes, ArraySizes, ArraySize, Initialiser, MoreElements, Value, Block, Statements, Statement, AfterName, Arm, Elses, AfterElse, ForStart, AfterForName, ReturnValue, Item, MoreItems, Qualifiers, MayLevel, MayDirection, Parameter, Parameters, MoreParameters, Result, Field, MoreFields, MayEnd, Definition, Definitions, Imports, Version, TheEnd}
use Rattle.grammar_machine.specs.Machine.Move.{Reads, Expands, Stops}

-- what a symbol stands for may be no token at all
abbrev pub may_be_empty : Symbol → Bool
may_be_empty MoreNames = true
may_be_empty MayInt = true
may_be_empty (Links level n) = true
may_be_empty (Steps n) = true
may_be_empty (CallOrName n) = true
may_be_empty (Sizes n) = true
may_be_empty (ArraySizes n) = true
may_be_empty (Value n inner) = true
may_be_empty (Elses n) = true
may_be_empty Qualifiers = true
may_be_empty MayLevel = true
may_be_empty MayDirection = true
may_be_empty MayEnd = true
may_be_empty (Definitions n) = true
may_be_empty Imports = true
may_be_empty Version = true
may_be_empty TheEnd = true
may_be_empty _ = false

-- a symbol weighs more than all that a move without a token puts ahead in its place
abbrev pub weight : Symbol → ℕ
weight (TheSign sign) = 0
weight TheName = 0
weight TheOne = 0
weight ImportText = 0
weight QualifiedName = 0
weight (MoreArguments n) = 0
weight (MoreElements n) = 0
weight (Block n) = 0
weight (Arm n) = 0
weight (MoreItems n) = 0
weight (MoreParameters n) = 0
weight (Postfix n) = 2
weight (UnaryForm n) = 3
weight (Operand level n) = 4 + (operator_levels - level)
weight (Arguments n) = 15
weight (ArraySize n) = 15
weight (Initialiser n inner) = 15
weight (ReturnValue n) = 15
weight (Item n) = 15
weight (Statement n) = 2
weight (Statements n) = 3
weight (AfterName n) = 2
weight (AfterElse n) = 3
weight (ForStart n) = 2
weight (AfterForName n) = 2
weight (Parameter n) = 3
weight (Parameters n) = 4
weight (Result n) = 2
weight (Field n) = 2
weight (MoreFields n) = 3
weight (Definition n) = 3
weight (Definitions n) = 4
weight _ = 1

-- what some symbols weigh ahead: up to and with the first that stands for a token at least, which is read before those below it are looked at
abbrev pub weight_ahead : List Symbol → ℕ
weight_ahead [] = 0
weight_ahead (x ∷ xs) = weight x + cond (may_be_empty x) (weight_ahead xs) 0

-- all of some symbols may be empty
abbrev pub all_may_be_empty : List Symbol → Bool
all_may_be_empty [] = true
all_may_be_empty (x ∷ xs) = may_be_empty x && all_may_be_empty xs

-- the symbols that can make a nesting unavoidable before they read a token
abbrev pub may_open : Symbol → Bool
may_open (Arguments n) = true
may_open (ArraySize n) = true
may_open (Item n) = true
may_open (Statements n) = true
may_open (Definition n) = true
may_open (Definitions n) = true
may_open _ = false

-- a move without a token puts lighter symbols ahead in the place of one, not all of which may be empty where that one may not, and only some symbols make a nesting
-- unavoidable by it
abbrev pub is_ordered : Symbol → Move → Bool
is_ordered x (Reads m symbols) = true
is_ordered x (Expands m symbols) = nat_lt (weight_ahead symbols) (weight x) && ((may_be_empty x || not (all_may_be_empty symbols)) && (may_open x || m == 0))
is_ordered x Stops = true
