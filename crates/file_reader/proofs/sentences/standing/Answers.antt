use Rattle.std.proofs.Common.{true, false}
use Rattle.file_reader.proofs.Standing.{standing_empty, standing_first, list_form, other_form}
use Rattle.file_reader.proofs.sentences.standing.Goals as goal

pub returns-in_default-get : goal.returns-in_default-get
returns-in_default-get c = λ sort written are same.
    standing_empty sort c.args.had written c.args.groups.now c.in-Some.group.now c.in-Some.ensures.value c.in_default-get.ensures.value are same

pub returns-in-UserList : goal.returns-in-UserList
returns-in-UserList c = λ sort written are same.
    standing_first sort c.args.had written c.args.groups.now c.in-Some.group.now c.in-Some-get.first.now true c.in-Some.ensures.value c.in-Some-get.ensures.value
    (list_form c.in-Some-get.first.now _ c.in-UserList.is) are same

pub returns-in_default-form : goal.returns-in_default-form
returns-in_default-form c = λ sort written are same.
    standing_first sort c.args.had written c.args.groups.now c.in-Some.group.now c.in-Some-get.first.now false c.in-Some.ensures.value c.in-Some-get.ensures.value
    (other_form c.in-Some-get.first.now c.in_default-form.not-UserList) are same
