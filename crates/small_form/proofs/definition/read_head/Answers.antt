use Rattle.std.proofs.Common.{refl, ap, ◌∷◌, ◌≡◌}
use Rattle.std.specs.Prelude.{codes}
use Rattle.small_form.specs.Small.{is_sort}
use Rattle.small_form.proofs.Left.{sort_word}
use Rattle.small_form.proofs.definition.read_head.Goals as goal

pub returns-then-not-eat-clause-exact : goal.returns-then-not-eat-clause-exact
returns-then-not-eat-clause-exact c = λ name sort pieces rest word is read.
    let start = c.if-not-eat.ensures.exact (name ∷ codes "syntax" ∷ sort ∷ codes ":" ∷ codes ":" ∷ codes "=" ∷ pieces) rest refl read in
    let none = start.0 in
    absurd (cc)

pub returns-in_err-name-clause-exact : goal.returns-in_err-name-clause-exact
returns-in_err-name-clause-exact c = λ name sort pieces rest word is read.
    let start = c.if-not-eat.ensures.exact (name ∷ codes "syntax" ∷ sort ∷ codes ":" ∷ codes ":" ∷ codes "=" ∷ pieces) rest refl read in
    let none = (c.in_err-name.ensures.exact name (codes "syntax" ∷ sort ∷ codes ":" ∷ codes ":" ∷ codes "=" ∷ pieces) rest word start.1).0 in
    absurd (cc)

pub returns-then-not-eat-2-clause-exact : goal.returns-then-not-eat-2-clause-exact
returns-then-not-eat-2-clause-exact c = λ name sort pieces rest word is read.
    let start = c.if-not-eat.ensures.exact (name ∷ codes "syntax" ∷ sort ∷ codes ":" ∷ codes ":" ∷ codes "=" ∷ pieces) rest refl read in
    let named = c.in_ok-name.ensures.exact name (codes "syntax" ∷ sort ∷ codes ":" ∷ codes ":" ∷ codes "=" ∷ pieces) rest word start.1 in
    let none = (c.if-not-eat-2.ensures.exact (sort ∷ codes ":" ∷ codes ":" ∷ codes "=" ∷ pieces) rest refl named.1).0 in
    absurd (cc)

pub returns-in_err-sort-clause-exact : goal.returns-in_err-sort-clause-exact
returns-in_err-sort-clause-exact c = λ name sort pieces rest word is read.
    let start = c.if-not-eat.ensures.exact (name ∷ codes "syntax" ∷ sort ∷ codes ":" ∷ codes ":" ∷ codes "=" ∷ pieces) rest refl read in
    let named = c.in_ok-name.ensures.exact name (codes "syntax" ∷ sort ∷ codes ":" ∷ codes ":" ∷ codes "=" ∷ pieces) rest word start.1 in
    let syntax = c.if-not-eat-2.ensures.exact (sort ∷ codes ":" ∷ codes ":" ∷ codes "=" ∷ pieces) rest refl named.1 in
    let none = (c.in_err-sort.ensures.exact sort (codes ":" ∷ codes ":" ∷ codes "=" ∷ pieces) rest (sort_word sort is) syntax.1).0 in
    absurd (cc)

pub returns-then-not-is_sort-clause-exact : goal.returns-then-not-is_sort-clause-exact
returns-then-not-is_sort-clause-exact c = λ name sort pieces rest word is read.
    let start = c.if-not-eat.ensures.exact (name ∷ codes "syntax" ∷ sort ∷ codes ":" ∷ codes ":" ∷ codes "=" ∷ pieces) rest refl read in
    let named = c.in_ok-name.ensures.exact name (codes "syntax" ∷ sort ∷ codes ":" ∷ codes ":" ∷ codes "=" ∷ pieces) rest word start.1 in
    let syntax = c.if-not-eat-2.ensures.exact (sort ∷ codes ":" ∷ codes ":" ∷ codes "=" ∷ pieces) rest refl named.1 in
    let sorted = c.in_ok-sort.ensures.exact sort (codes ":" ∷ codes ":" ∷ codes "=" ∷ pieces) rest (sort_word sort is) syntax.1 in
    let same : c.in_ok-sort.sort.now ≡ sort = (let it = sorted.0 in cc) in
    let answer = c.is_sort.ensures in
    let other = c.if-not-is_sort.true in
    let equal : is_sort c.in_ok-sort.sort.now ≡ is_sort sort = ap is_sort same in
    absurd (cc)

pub returns-then-not-read_becomes-clause-exact : goal.returns-then-not-read_becomes-clause-exact
returns-then-not-read_becomes-clause-exact c = λ name sort pieces rest word is read.
    let start = c.if-not-eat.ensures.exact (name ∷ codes "syntax" ∷ sort ∷ codes ":" ∷ codes ":" ∷ codes "=" ∷ pieces) rest refl read in
    let named = c.in_ok-name.ensures.exact name (codes "syntax" ∷ sort ∷ codes ":" ∷ codes ":" ∷ codes "=" ∷ pieces) rest word start.1 in
    let syntax = c.if-not-eat-2.ensures.exact (sort ∷ codes ":" ∷ codes ":" ∷ codes "=" ∷ pieces) rest refl named.1 in
    let sorted = c.in_ok-sort.ensures.exact sort (codes ":" ∷ codes ":" ∷ codes "=" ∷ pieces) rest (sort_word sort is) syntax.1 in
    let same : c.in_ok-sort.sort.now ≡ sort = (let it = sorted.0 in cc) in
    let none = (c.if-not-read_becomes.ensures.exact pieces rest sorted.1).0 in
    absurd (cc)

pub returns-clause-exact : goal.returns-clause-exact
returns-clause-exact c = λ name sort pieces rest word is read.
    let start = c.if-not-eat.ensures.exact (name ∷ codes "syntax" ∷ sort ∷ codes ":" ∷ codes ":" ∷ codes "=" ∷ pieces) rest refl read in
    let named = c.in_ok-name.ensures.exact name (codes "syntax" ∷ sort ∷ codes ":" ∷ codes ":" ∷ codes "=" ∷ pieces) rest word start.1 in
    let syntax = c.if-not-eat-2.ensures.exact (sort ∷ codes ":" ∷ codes ":" ∷ codes "=" ∷ pieces) rest refl named.1 in
    let sorted = c.in_ok-sort.ensures.exact sort (codes ":" ∷ codes ":" ∷ codes "=" ∷ pieces) rest (sort_word sort is) syntax.1 in
    let same : c.in_ok-sort.sort.now ≡ sort = (let it = sorted.0 in cc) in
    let becomes = c.if-not-read_becomes.ensures.exact pieces rest sorted.1 in
    let known : c.in_ok-name.name.now ≡ name = (let it = named.0 in cc) in
    ((known, same), becomes.1)
