use Rattle.production_reader.proofs.ProductionReading.{sub_stops, sub_read}
use Rattle.production_reader.proofs.production.read_subsort.Goals as goal

pub returns-in-Err : goal.returns-in-Err
returns-in-Err c = sub_stops c.args.source.now c.args.from c.requires c.in-Err.stop c.in-Err.ensures

pub returns : goal.returns
returns c = sub_read c.args.source.now c.args.from c.requires c.in-Ok.read.0 c.in-Ok.read.1 c.in-Ok.ensures c.in-Some.items c.in-Some.ensures c.no_attrs.result c.no_attrs.ensures
