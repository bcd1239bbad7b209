-- Goals of `calling::vector`.
use Rattle.std.proofs.Common.{refl, arith}
use Rattle.fix_num.specs.declared.TheConstants.{FRACTION}
use Rattle.ctl_stdlib.specs.declared.row.LibraryId.TheVariants.{AddF3F3, SubtractF3F3, MultFF3, DotF3F3, CrossF3F3, LengthF3, MultF3F33, MultF3F44, MultF33F33, MultF44F44, MultFF33, MultFF44, AddF33F33, AddF44F44, TransposeF33, TransposeF44, InvertF33, InvertF44}
use Rattle.ctl_stdlib.specs.Values.{sum_of, difference_of, product_of, dot_of, cross_of, length_of, row_by_33, row_by_44, product_33, product_44, transpose_33, transpose_44, inverse_33, inverse_44}
use Rattle.ctl_stdlib.proofs.Arms.{given_at, room_at, many_words, not_both}
use Rattle.ctl_stdlib.proofs.calling.vector.Goals as goal

pub sum-requires : goal.sum-requires
sum-requires c = record { given = given_at c.args.id AddF3F3 _ c.requires.given c.in-AddF3F3.is; room = room_at c.args.id AddF3F3 _ c.requires.room c.in-AddF3F3.is; few = omega arith }

pub returns-in-AddF3F3 : goal.returns-in-AddF3F3
returns-in-AddF3F3 c = record { done = λ t. many_words AddF3F3 c.args.id (sum_of 3) c.args.args.now _ c.in-AddF3F3.is c.sum.ensures.filled (λ args. refl) (λ args sizes table. refl); none = λ t. not_both c.sum.result c.sum.ensures.done t }

pub difference-requires : goal.difference-requires
difference-requires c = record { given = given_at c.args.id SubtractF3F3 _ c.requires.given c.in-SubtractF3F3.is; room = room_at c.args.id SubtractF3F3 _ c.requires.room c.in-SubtractF3F3.is }

pub returns-in-SubtractF3F3 : goal.returns-in-SubtractF3F3
returns-in-SubtractF3F3 c = record { done = λ t. many_words SubtractF3F3 c.args.id (difference_of) c.args.args.now _ c.in-SubtractF3F3.is c.difference.ensures.filled (λ args. refl) (λ args sizes table. refl); none = λ t. not_both c.difference.result c.difference.ensures.done t }

pub product-requires : goal.product-requires
product-requires c = record { given = given_at c.args.id MultFF3 _ c.requires.given c.in-MultFF3.is; room = room_at c.args.id MultFF3 _ c.requires.room c.in-MultFF3.is; few = omega arith }

pub returns-in-MultFF3 : goal.returns-in-MultFF3
returns-in-MultFF3 c = record { done = λ t. many_words MultFF3 c.args.id (product_of FRACTION) c.args.args.now _ c.in-MultFF3.is c.product.ensures.filled (λ args. refl) (λ args sizes table. refl); none = λ t. not_both c.product.result c.product.ensures.done t }

pub dot-requires : goal.dot-requires
dot-requires c = record { given = given_at c.args.id DotF3F3 _ c.requires.given c.in-DotF3F3.is; room = room_at c.args.id DotF3F3 _ c.requires.room c.in-DotF3F3.is }

pub returns-in-DotF3F3 : goal.returns-in-DotF3F3
returns-in-DotF3F3 c = record { done = λ t. many_words DotF3F3 c.args.id (dot_of FRACTION) c.args.args.now _ c.in-DotF3F3.is c.dot.ensures.filled (λ args. refl) (λ args sizes table. refl); none = λ t. not_both c.dot.result c.dot.ensures.done t }

pub cross-requires : goal.cross-requires
cross-requires c = record { given = given_at c.args.id CrossF3F3 _ c.requires.given c.in-CrossF3F3.is; room = room_at c.args.id CrossF3F3 _ c.requires.room c.in-CrossF3F3.is }

pub returns-in-CrossF3F3 : goal.returns-in-CrossF3F3
returns-in-CrossF3F3 c = record { done = λ t. many_words CrossF3F3 c.args.id (cross_of FRACTION) c.args.args.now _ c.in-CrossF3F3.is c.cross.ensures.filled (λ args. refl) (λ args sizes table. refl); none = λ t. not_both c.cross.result c.cross.ensures.done t }

pub size-requires : goal.size-requires
size-requires c = record { given = given_at c.args.id LengthF3 _ c.requires.given c.in-LengthF3.is; room = room_at c.args.id LengthF3 _ c.requires.room c.in-LengthF3.is }

pub returns-in-LengthF3 : goal.returns-in-LengthF3
returns-in-LengthF3 c = record { done = λ t. many_words LengthF3 c.args.id (length_of FRACTION) c.args.args.now _ c.in-LengthF3.is c.size.ensures.filled (λ args. refl) (λ args sizes table. refl); none = λ t. not_both c.size.result c.size.ensures.done t }

pub row_by_33-requires : goal.row_by_33-requires
row_by_33-requires c = record { given = given_at c.args.id MultF3F33 _ c.requires.given c.in-MultF3F33.is; room = room_at c.args.id MultF3F33 _ c.requires.room c.in-MultF3F33.is }

pub returns-in-MultF3F33 : goal.returns-in-MultF3F33
returns-in-MultF3F33 c = record { done = λ t. many_words MultF3F33 c.args.id (row_by_33 FRACTION) c.args.args.now _ c.in-MultF3F33.is c.row_by_33.ensures.filled (λ args. refl) (λ args sizes table. refl); none = λ t. not_both c.row_by_33.result c.row_by_33.ensures.done t }

pub row_by_44-requires : goal.row_by_44-requires
row_by_44-requires c = record { given = given_at c.args.id MultF3F44 _ c.requires.given c.in-MultF3F44.is; room = room_at c.args.id MultF3F44 _ c.requires.room c.in-MultF3F44.is }

pub returns-in-MultF3F44 : goal.returns-in-MultF3F44
returns-in-MultF3F44 c = record { done = λ t. many_words MultF3F44 c.args.id (row_by_44 FRACTION) c.args.args.now _ c.in-MultF3F44.is c.row_by_44.ensures.filled (λ args. refl) (λ args sizes table. refl); none = λ t. not_both c.row_by_44.result c.row_by_44.ensures.done t }

pub product_33-requires : goal.product_33-requires
product_33-requires c = record { given = given_at c.args.id MultF33F33 _ c.requires.given c.in-MultF33F33.is; room = room_at c.args.id MultF33F33 _ c.requires.room c.in-MultF33F33.is }

pub returns-in-MultF33F33 : goal.returns-in-MultF33F33
returns-in-MultF33F33 c = record { done = λ t. many_words MultF33F33 c.args.id (product_33 FRACTION) c.args.args.now _ c.in-MultF33F33.is c.product_33.ensures.filled (λ args. refl) (λ args sizes table. refl); none = λ t. not_both c.product_33.result c.product_33.ensures.done t }

pub product_44-requires : goal.product_44-requires
product_44-requires c = record { given = given_at c.args.id MultF44F44 _ c.requires.given c.in-MultF44F44.is; room = room_at c.args.id MultF44F44 _ c.requires.room c.in-MultF44F44.is }

pub returns-in-MultF44F44 : goal.returns-in-MultF44F44
returns-in-MultF44F44 c = record { done = λ t. many_words MultF44F44 c.args.id (product_44 FRACTION) c.args.args.now _ c.in-MultF44F44.is c.product_44.ensures.filled (λ args. refl) (λ args sizes table. refl); none = λ t. not_both c.product_44.result c.product_44.ensures.done t }

pub product-requires-in-MultFF33 : goal.product-requires-in-MultFF33
product-requires-in-MultFF33 c = record { given = given_at c.args.id MultFF33 _ c.requires.given c.in-MultFF33.is; room = room_at c.args.id MultFF33 _ c.requires.room c.in-MultFF33.is; few = omega arith }

pub returns-in-MultFF33 : goal.returns-in-MultFF33
returns-in-MultFF33 c = record { done = λ t. many_words MultFF33 c.args.id (product_of FRACTION) c.args.args.now _ c.in-MultFF33.is c.product-in-MultFF33.ensures.filled (λ args. refl) (λ args sizes table. refl); none = λ t. not_both c.product-in-MultFF33.result c.product-in-MultFF33.ensures.done t }

pub product-requires-in-MultFF44 : goal.product-requires-in-MultFF44
product-requires-in-MultFF44 c = record { given = given_at c.args.id MultFF44 _ c.requires.given c.in-MultFF44.is; room = room_at c.args.id MultFF44 _ c.requires.room c.in-MultFF44.is; few = omega arith }

pub returns-in-MultFF44 : goal.returns-in-MultFF44
returns-in-MultFF44 c = record { done = λ t. many_words MultFF44 c.args.id (product_of FRACTION) c.args.args.now _ c.in-MultFF44.is c.product-in-MultFF44.ensures.filled (λ args. refl) (λ args sizes table. refl); none = λ t. not_both c.product-in-MultFF44.result c.product-in-MultFF44.ensures.done t }

pub sum-requires-in-AddF33F33 : goal.sum-requires-in-AddF33F33
sum-requires-in-AddF33F33 c = record { given = given_at c.args.id AddF33F33 _ c.requires.given c.in-AddF33F33.is; room = room_at c.args.id AddF33F33 _ c.requires.room c.in-AddF33F33.is; few = omega arith }

pub returns-in-AddF33F33 : goal.returns-in-AddF33F33
returns-in-AddF33F33 c = record { done = λ t. many_words AddF33F33 c.args.id (sum_of 9) c.args.args.now _ c.in-AddF33F33.is c.sum-in-AddF33F33.ensures.filled (λ args. refl) (λ args sizes table. refl); none = λ t. not_both c.sum-in-AddF33F33.result c.sum-in-AddF33F33.ensures.done t }

pub sum-requires-in-AddF44F44 : goal.sum-requires-in-AddF44F44
sum-requires-in-AddF44F44 c = record { given = given_at c.args.id AddF44F44 _ c.requires.given c.in-AddF44F44.is; room = room_at c.args.id AddF44F44 _ c.requires.room c.in-AddF44F44.is; few = omega arith }

pub returns-in-AddF44F44 : goal.returns-in-AddF44F44
returns-in-AddF44F44 c = record { done = λ t. many_words AddF44F44 c.args.id (sum_of 16) c.args.args.now _ c.in-AddF44F44.is c.sum-in-AddF44F44.ensures.filled (λ args. refl) (λ args sizes table. refl); none = λ t. not_both c.sum-in-AddF44F44.result c.sum-in-AddF44F44.ensures.done t }

pub transpose_33-requires : goal.transpose_33-requires
transpose_33-requires c = record { given = given_at c.args.id TransposeF33 _ c.requires.given c.in-TransposeF33.is; room = room_at c.args.id TransposeF33 _ c.requires.room c.in-TransposeF33.is }

pub returns-in-TransposeF33 : goal.returns-in-TransposeF33
returns-in-TransposeF33 c = record { done = λ t. many_words TransposeF33 c.args.id (transpose_33) c.args.args.now _ c.in-TransposeF33.is c.transpose_33.ensures.filled (λ args. refl) (λ args sizes table. refl); none = λ t. not_both c.transpose_33.result c.transpose_33.ensures.done t }

pub transpose_44-requires : goal.transpose_44-requires
transpose_44-requires c = record { given = given_at c.args.id TransposeF44 _ c.requires.given c.in-TransposeF44.is; room = room_at c.args.id TransposeF44 _ c.requires.room c.in-TransposeF44.is }

pub returns-in-TransposeF44 : goal.returns-in-TransposeF44
returns-in-TransposeF44 c = record { done = λ t. many_words TransposeF44 c.args.id (transpose_44) c.args.args.now _ c.in-TransposeF44.is c.transpose_44.ensures.filled (λ args. refl) (λ args sizes table. refl); none = λ t. not_both c.transpose_44.result c.transpose_44.ensures.done t }

pub inverse_33-requires : goal.inverse_33-requires
inverse_33-requires c = record { given = given_at c.args.id InvertF33 _ c.requires.given c.in-InvertF33.is; room = room_at c.args.id InvertF33 _ c.requires.room c.in-InvertF33.is }

pub returns-in-InvertF33 : goal.returns-in-InvertF33
returns-in-InvertF33 c = record { done = λ t. many_words InvertF33 c.args.id (inverse_33 FRACTION) c.args.args.now _ c.in-InvertF33.is c.inverse_33.ensures.filled (λ args. refl) (λ args sizes table. refl); none = λ t. not_both c.inverse_33.result c.inverse_33.ensures.done t }

pub inverse_44-requires : goal.inverse_44-requires
inverse_44-requires c = record { given = given_at c.args.id InvertF44 _ c.requires.given c.in-InvertF44.is; room = room_at c.args.id InvertF44 _ c.requires.room c.in-InvertF44.is }

pub returns-in-InvertF44 : goal.returns-in-InvertF44
returns-in-InvertF44 c = record { done = λ t. many_words InvertF44 c.args.id (inverse_44 FRACTION) c.args.args.now _ c.in-InvertF44.is c.inverse_44.ensures.filled (λ args. refl) (λ args sizes table. refl); none = λ t. not_both c.inverse_44.result c.inverse_44.ensures.done t }
