use Rattle.cell_contents.proofs.table.found_behind.Goals as goal

pub returns-in-Item : goal.returns-in-Item
returns-in-Item c = rw c.in-Item.is c.behind_item.ensures

pub returns-in-Key : goal.returns-in-Key
returns-in-Key c = rw c.in-Key.is c.behind_key.ensures

pub returns-in-Value : goal.returns-in-Value
returns-in-Value c = rw c.in-Value.is c.behind_value.ensures

pub returns-in-Member : goal.returns-in-Member
returns-in-Member c = rw c.in-Member.is c.behind_member.ensures
