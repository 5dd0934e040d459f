use Rattle.std.proofs.Common.{sym}
use Rattle.production_reader.proofs.AttributeLists.{attrs_begin, attrs_stop, attrs_go, attrs_end}
use Rattle.production_reader.proofs.attributes.read_list.Goals as goal

pub attributes-init : goal.attributes-init
attributes-init c = attrs_begin c.args.brackets c.args.source.now c.args.from c.no_attrs-attrs.result c.no_attrs-attrs.ensures c.requires

pub returns-in-Err : goal.returns-in-Err
returns-in-Err c = attrs_stop c.args.brackets c.args.source.now c.args.from c.attributes.attrs c.attributes.at c.attributes.invariant c.in-Err.stop c.in-Err.ensures

pub returns-then-not-is_mark : goal.returns-then-not-is_mark
returns-then-not-is_mark c =
    attrs_end c.args.brackets c.args.source.now c.args.from c.attributes.attrs c.attributes.at c.attributes.invariant c.in-Ok.read.0 c.in-Ok.read.1 c.in-Some.more c.in-Some.ensures c.in-Ok.ensures
    (sym c.if-not-is_mark.ensures.is)

pub attributes-preserved : goal.attributes-preserved
attributes-preserved c =
    attrs_go c.args.brackets c.args.source.now c.args.from c.attributes.attrs c.attributes.at c.attributes.invariant c.in-Ok.read.0 c.in-Ok.read.1 c.in-Some.more c.in-Some.ensures c.in-Ok.ensures
    (sym c.if-not-is_mark.ensures.is)
