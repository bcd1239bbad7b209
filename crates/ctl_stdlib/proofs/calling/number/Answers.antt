-- Goals of `calling::number`.
use Rattle.std.proofs.Common.{ℤ, ◌<◌, sum_by, refl, ap, ◌∙◌, arith}
use Rattle.fix_num.specs.declared.TheConstants.{FRACTION}
use Rattle.fix_num.specs.Fixed.{fix_abs, fix_floor, fix_sqrt}
use Rattle.fix_num.specs.Half.{half}
use Rattle.fix_elem.specs.Elementary.{exp, log, log10, pow10, pow, fmod, hypot}
use Rattle.fix_trig.specs.Angle.{fix_sin, fix_cos, fix_tan, fix_asin, fix_acos, fix_atan, fix_atan2}
use Rattle.ctl_stdlib.specs.declared.row.LibraryId.TheVariants.{Exp, Log, Log10, Pow10, Sqrt, Fabs, Floor, Sin, Cos, Tan, Asin, Acos, Atan, Pow, Fmod, Hypot, Atan2, ExpH, LogH, Log10H, Pow10H, PowH}
use Rattle.ctl_stdlib.specs.Rows.{row}
use Rattle.ctl_stdlib.specs.Shapes.{input_words}
use Rattle.ctl_stdlib.proofs.Arms.{one_number, two_numbers}
use Rattle.ctl_stdlib.proofs.Filled.{some_words}
use Rattle.ctl_stdlib.proofs.calling.number.Goals as goal

pub bounds-args-0 : goal.bounds-args-0
bounds-args-0 c = let s : 0 < sum_by input_words (row c.args.id).params = some_words c.args.id in omega arith

pub overflow_sub-y : goal.overflow_sub-y
overflow_sub-y c = let s : 0 < sum_by input_words (row c.args.id).params = some_words c.args.id in omega arith

pub bounds-args-args : goal.bounds-args-args
bounds-args-args c = let s : 0 < sum_by input_words (row c.args.id).params = some_words c.args.id in omega arith

pub returns-in-Exp : goal.returns-in-Exp
returns-in-Exp c = one_number Exp c.args.id (exp FRACTION) c.args.args.now c.index-args-0.result c.exp.result c.in-Exp.is refl (λ args. refl) (λ args sizes table. refl) c.requires.given c.index-args-0.is c.exp.ensures

pub returns-in-Log : goal.returns-in-Log
returns-in-Log c = one_number Log c.args.id (log FRACTION) c.args.args.now c.index-args-0.result c.log.result c.in-Log.is refl (λ args. refl) (λ args sizes table. refl) c.requires.given c.index-args-0.is c.log.ensures

pub returns-in-Log10 : goal.returns-in-Log10
returns-in-Log10 c = one_number Log10 c.args.id (log10 FRACTION) c.args.args.now c.index-args-0.result c.log10.result c.in-Log10.is refl (λ args. refl) (λ args sizes table. refl) c.requires.given c.index-args-0.is c.log10.ensures

pub returns-in-Pow10 : goal.returns-in-Pow10
returns-in-Pow10 c = one_number Pow10 c.args.id (pow10 FRACTION) c.args.args.now c.index-args-0.result c.pow10.result c.in-Pow10.is refl (λ args. refl) (λ args sizes table. refl) c.requires.given c.index-args-0.is c.pow10.ensures

pub returns-in-Sqrt : goal.returns-in-Sqrt
returns-in-Sqrt c = one_number Sqrt c.args.id (fix_sqrt FRACTION) c.args.args.now c.index-args-0.result c.sqrt.result c.in-Sqrt.is refl (λ args. refl) (λ args sizes table. refl) c.requires.given c.index-args-0.is c.sqrt.ensures

pub returns-in-Fabs : goal.returns-in-Fabs
returns-in-Fabs c = one_number Fabs c.args.id (fix_abs) c.args.args.now c.index-args-0.result c.abs.result c.in-Fabs.is refl (λ args. refl) (λ args sizes table. refl) c.requires.given c.index-args-0.is c.abs.ensures

pub returns-in-Floor : goal.returns-in-Floor
returns-in-Floor c = one_number Floor c.args.id (fix_floor FRACTION) c.args.args.now c.index-args-0.result c.floor.result c.in-Floor.is refl (λ args. refl) (λ args sizes table. refl) c.requires.given c.index-args-0.is c.floor.ensures

pub returns-in-Sin : goal.returns-in-Sin
returns-in-Sin c = one_number Sin c.args.id (fix_sin FRACTION) c.args.args.now c.index-args-0.result c.sin.result c.in-Sin.is refl (λ args. refl) (λ args sizes table. refl) c.requires.given c.index-args-0.is c.sin.ensures

pub returns-in-Cos : goal.returns-in-Cos
returns-in-Cos c = one_number Cos c.args.id (fix_cos FRACTION) c.args.args.now c.index-args-0.result c.cos.result c.in-Cos.is refl (λ args. refl) (λ args sizes table. refl) c.requires.given c.index-args-0.is c.cos.ensures

pub returns-in-Tan : goal.returns-in-Tan
returns-in-Tan c = one_number Tan c.args.id (fix_tan FRACTION) c.args.args.now c.index-args-0.result c.tan.result c.in-Tan.is refl (λ args. refl) (λ args sizes table. refl) c.requires.given c.index-args-0.is c.tan.ensures

pub returns-in-Asin : goal.returns-in-Asin
returns-in-Asin c = one_number Asin c.args.id (fix_asin FRACTION) c.args.args.now c.index-args-0.result c.asin.result c.in-Asin.is refl (λ args. refl) (λ args sizes table. refl) c.requires.given c.index-args-0.is c.asin.ensures

pub returns-in-Acos : goal.returns-in-Acos
returns-in-Acos c = one_number Acos c.args.id (fix_acos FRACTION) c.args.args.now c.index-args-0.result c.acos.result c.in-Acos.is refl (λ args. refl) (λ args sizes table. refl) c.requires.given c.index-args-0.is c.acos.ensures

pub returns-in-Atan : goal.returns-in-Atan
returns-in-Atan c = one_number Atan c.args.id (fix_atan FRACTION) c.args.args.now c.index-args-0.result c.atan.result c.in-Atan.is refl (λ args. refl) (λ args sizes table. refl) c.requires.given c.index-args-0.is c.atan.ensures

pub returns-in-Pow : goal.returns-in-Pow
returns-in-Pow c = two_numbers Pow c.args.id (pow FRACTION) c.args.args.now c.index-args-0.result c.index-args-args.result c.pow.result c.in-Pow.is refl refl (λ args. refl) (λ args sizes table. refl) c.requires.given c.index-args-0.is c.index-args-args.is c.pow.ensures

pub returns-in-Fmod : goal.returns-in-Fmod
returns-in-Fmod c = two_numbers Fmod c.args.id (fmod) c.args.args.now c.index-args-0.result c.index-args-args.result c.fmod.result c.in-Fmod.is refl refl (λ args. refl) (λ args sizes table. refl) c.requires.given c.index-args-0.is c.index-args-args.is c.fmod.ensures

pub returns-in-Hypot : goal.returns-in-Hypot
returns-in-Hypot c = two_numbers Hypot c.args.id (hypot) c.args.args.now c.index-args-0.result c.index-args-args.result c.hypot.result c.in-Hypot.is refl refl (λ args. refl) (λ args sizes table. refl) c.requires.given c.index-args-0.is c.index-args-args.is c.hypot.ensures

pub returns-in-Atan2 : goal.returns-in-Atan2
returns-in-Atan2 c = two_numbers Atan2 c.args.id (fix_atan2 FRACTION) c.args.args.now c.index-args-0.result c.index-args-args.result c.atan2.result c.in-Atan2.is refl refl (λ args. refl) (λ args sizes table. refl) c.requires.given c.index-args-0.is c.index-args-args.is c.atan2.ensures

pub returns-in-ExpH : goal.returns-in-ExpH
returns-in-ExpH c = one_number ExpH c.args.id (λ (a : ℤ). half FRACTION (exp FRACTION a)) c.args.args.now c.index-args-0.result c.to_half.result c.in-ExpH.is refl (λ args. refl) (λ args sizes table. refl) c.requires.given c.index-args-0.is (c.to_half.ensures ∙ ap (half FRACTION) c.exp-in-ExpH.ensures)

pub returns-in-LogH : goal.returns-in-LogH
returns-in-LogH c = one_number LogH c.args.id (λ (a : ℤ). half FRACTION (log FRACTION a)) c.args.args.now c.index-args-0.result c.to_half-in-LogH.result c.in-LogH.is refl (λ args. refl) (λ args sizes table. refl) c.requires.given c.index-args-0.is (c.to_half-in-LogH.ensures ∙ ap (half FRACTION) c.log-in-LogH.ensures)

pub returns-in-Log10H : goal.returns-in-Log10H
returns-in-Log10H c = one_number Log10H c.args.id (λ (a : ℤ). half FRACTION (log10 FRACTION a)) c.args.args.now c.index-args-0.result c.to_half-in-Log10H.result c.in-Log10H.is refl (λ args. refl) (λ args sizes table. refl) c.requires.given c.index-args-0.is (c.to_half-in-Log10H.ensures ∙ ap (half FRACTION) c.log10-in-Log10H.ensures)

pub returns-in-Pow10H : goal.returns-in-Pow10H
returns-in-Pow10H c = one_number Pow10H c.args.id (λ (a : ℤ). half FRACTION (pow10 FRACTION a)) c.args.args.now c.index-args-0.result c.to_half-in-Pow10H.result c.in-Pow10H.is refl (λ args. refl) (λ args sizes table. refl) c.requires.given c.index-args-0.is (c.to_half-in-Pow10H.ensures ∙ ap (half FRACTION) c.pow10-in-Pow10H.ensures)

pub returns-in-PowH : goal.returns-in-PowH
returns-in-PowH c = two_numbers PowH c.args.id (λ (a b : ℤ). half FRACTION (pow FRACTION a b)) c.args.args.now c.index-args-0.result c.index-args-args.result c.to_half-in-PowH.result c.in-PowH.is refl refl (λ args. refl) (λ args sizes table. refl) c.requires.given c.index-args-0.is c.index-args-args.is (c.to_half-in-PowH.ensures ∙ ap (half FRACTION) c.pow-in-PowH.ensures)
