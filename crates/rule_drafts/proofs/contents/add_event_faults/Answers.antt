use Rattle.std.proofs.Common.{true, false, drop, ◌≡◌, ◌++◌, IfOk, refl, sym, ap, ◌∙◌, subst}
use Rattle.rule_drafts.specs.Bodies.{nested_faults}
use Rattle.rule_drafts.specs.Cells.{first_token, parts_at, side_faults_at, event_faults}
use Rattle.rule_drafts.proofs.Lists.{added_three}
use Rattle.rule_drafts.proofs.contents.add_event_faults.Goals as goal

pub returns-in_ok-add_side_faults-in-Content : goal.returns-in_ok-add_side_faults-in-Content
returns-in_ok-add_side_faults-in-Content c =
    let g = c.args.grammar.now in
    let leaves = c.args.leaves.now in
    let cells = c.args.cells.now in
    let readings = c.args.readings.now in
    let vars = c.args.vars.now in
    let side = c.in-Content.side in
    let tag = c.in-Content.tag in
    let first = c.in-Content.first in
    let back = side_faults_at g leaves cells readings vars false side tag first in
    subst (λ v. IfOk c.add_side_faults-in-Content.result (λ _. c.add_side_faults-in-Content.new.faults.items ≡ v))
    (added_three c.args.faults.now.items c.add_changes.new.faults.items c.add_side_faults.new.faults.items (c.add_side_faults.new.faults.items ++ back)
    (nested_faults (drop first leaves) (first_token tag first) (parts_at g leaves cells readings side tag first))
    (side_faults_at g leaves cells readings vars true side tag first) back
    c.in_ok-add_changes-in-Content.ensures c.in_ok-add_side_faults-in-Content.ensures refl
    ∙ ap (λ v. c.args.faults.now.items ++ event_faults g leaves cells readings vars v) (sym c.in-Content.is))
    c.add_side_faults-in-Content.ensures
