use Rattle.cell_config.proofs.Placing.{behind_stands}
use Rattle.cell_config.proofs.places.begun_in.Goals as goal

pub begun_name-requires : goal.begun_name-requires
begun_name-requires c = behind_stands c.args.text.now c.args.base.now c.base_behind.result.now c.up_to.result.now c.requires c.base_behind.ensures
