use Rattle.std.proofs.Common.{◌≡◌, ℕ, Bool, List, IsTrue, sym, subst}
use Rattle.production_reader.specs.Allowed.{IsSeparator}
use Rattle.production_reader.proofs.ListReading.{list_no_sort, list_no_comma, list_no_string, list_no_separator, list_no_brace, list_read}
use Rattle.production_reader.proofs.lists.read_user_list.Goals as goal

tells : (test : Bool) (text other : List ℕ) → text ≡ other → (IsTrue test → IsSeparator text) × (IsSeparator text → IsTrue test)
    → (IsTrue test → IsSeparator other) × (IsSeparator other → IsTrue test)
tells test text other is both = subst (λ t. (IsTrue test → IsSeparator t) × (IsSeparator t → IsTrue test)) is both

pub returns-in-Err : goal.returns-in-Err
returns-in-Err c = list_no_sort c.args.source.now c.args.from c.requires c.in-Err.stop c.in-Err.ensures

pub returns-then-not-is_mark : goal.returns-then-not-is_mark
returns-then-not-is_mark c = list_no_comma c.args.source.now c.args.from c.requires c.in-Ok.read.0 c.in-Ok.read.1 c.in-Ok.ensures (sym c.if-not-is_mark.ensures.is)

pub returns-in_default : goal.returns-in_default
returns-in_default c = list_no_string c.args.source.now c.args.from c.requires c.in-Ok.read.0 c.in-Ok.read.1 c.in-Ok.ensures (sym c.if-not-is_mark.ensures.is) c.in_default.ensures

pub returns-then-not-is_separator : goal.returns-then-not-is_separator
returns-then-not-is_separator c = list_no_separator c.args.source.now c.args.from c.requires c.in-Ok.read.0 c.in-Ok.read.1 c.in-Ok.ensures (sym c.if-not-is_mark.ensures.is)
    c.in-Some.string.now c.in-Some-text_of_string.separator c.is_separator.result c.in-Some.ensures.0 c.in-Some-text_of_string.ensures (tells c.is_separator.result c.as_slice.result.now c.in-Some-text_of_string.separator c.as_slice.ensures c.is_separator.ensures) c.if-not-is_separator.true

pub returns-then-not-is_mark-2 : goal.returns-then-not-is_mark-2
returns-then-not-is_mark-2 c = list_no_brace c.args.source.now c.args.from c.requires c.in-Ok.read.0 c.in-Ok.read.1 c.in-Ok.ensures (sym c.if-not-is_mark.ensures.is)
    c.in-Some.string.now c.in-Some-text_of_string.separator c.is_separator.result c.in-Some.ensures.0 c.in-Some-text_of_string.ensures (tells c.is_separator.result c.as_slice.result.now c.in-Some-text_of_string.separator c.as_slice.ensures c.is_separator.ensures) c.if-not-is_separator.false (sym c.if-not-is_mark-2.ensures.is)

pub returns : goal.returns
returns c = list_read c.args.source.now c.args.from c.requires c.in-Ok.read.0 c.in-Ok.read.1 c.in-Ok.ensures (sym c.if-not-is_mark.ensures.is)
    c.in-Some.string.now c.in-Some-text_of_string.separator c.is_separator.result c.in-Some.ensures.0 c.in-Some-text_of_string.ensures (tells c.is_separator.result c.as_slice.result.now c.in-Some-text_of_string.separator c.as_slice.ensures c.is_separator.ensures) c.if-not-is_separator.false (sym c.if-not-is_mark-2.ensures.is) c.in-Some-one_sort.items c.in-Some-one_sort.ensures c.no_attrs.result c.no_attrs.ensures
