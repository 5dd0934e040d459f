-- What a sort has after groups of productions, by their first.
use Rattle.std.proofs.Common.{◌≡◌, ℕ, Bool, true, false, List, [], ◌∷◌, ◌++◌, map, refl, sym, ap, ◌∙◌, subst, Option, Some, None}
use Rattle.std.specs.Prelude.{slice_get, not, unwrap_or}
use Rattle.production_reader.specs.Written.{Production}
use Rattle.production_reader.specs.Written.Production.{Plain, Prefix, UserList}
use Rattle.production_reader.specs.Allowed.{is_list, AreProductions, AreGroups, in_groups, had_after}
use Rattle.production_reader.specs.Meaning.{prod_of, groups_of}
use Rattle.production_reader.specs.declared.prod.Prod.{Prod}
use Rattle.production_reader.specs.declared.prod.Form.TheVariants as form
use Rattle.file_reader.proofs.Heads.{no_true}

none_one : {X : Type 0} {x : X} → ◌≡◌ {A = Option X} None (Some x) → ⊥
none_one e = cc

some_one : {X : Type 0} (x y : X) → Some x ≡ Some y → x ≡ y
some_one x y e = ap (λ o. unwrap_or o x) e

not_list : (b : Bool) → not b ≡ true → b ≡ false
not_list true e = absurd (no_true e)
not_list false e = refl

stays : (sort : List ℕ) (b : Bool) (productions : List Production) → AreProductions sort (Some b) productions → had_after (Some b) productions ≡ Some b
stays sort b [] are = refl
stays sort true (production ∷ productions) are = absurd (no_true are.1)
stays sort false (production ∷ productions) are =
    let plain : is_list production ≡ false = not_list (is_list production) are.1 in
    ap (λ t. had_after (Some t) productions) plain ∙ stays sort false productions (subst (λ t. AreProductions sort (Some t) productions) plain are.3)

pub standing_none : (sort : List ℕ) (had : Option Bool) (written : List (List Production)) (groups : List (List Prod)) → None ≡ slice_get groups 0 → groups ≡ groups_of written
    → had ≡ had_after had (in_groups written)
standing_none sort had [] groups none same = refl
standing_none sort had (group ∷ written) groups none same = absurd (none_one (none ∙ ap (λ g. slice_get g 0) same))

pub standing_empty : (sort : List ℕ) (had : Option Bool) (written : List (List Production)) (groups : List (List Prod)) (group : List Prod) → Some group ≡ slice_get groups 0
    → None ≡ slice_get group 0 → AreGroups sort had written → groups ≡ groups_of written → had ≡ had_after had (in_groups written)
standing_empty sort had [] groups group is none are same = refl
standing_empty sort had ([] ∷ written) groups group is none are same = absurd (no_true (sym are.0.0))
standing_empty sort had ((production ∷ productions) ∷ written) groups group is none are same =
    let one : group ≡ map prod_of (production ∷ productions) = some_one group (map prod_of (production ∷ productions)) (is ∙ ap (λ g. slice_get g 0) same) in
    absurd (none_one (none ∙ ap (λ g. slice_get g 0) one))

pub standing_first : (sort : List ℕ) (had : Option Bool) (written : List (List Production)) (groups : List (List Prod)) (group : List Prod) (first : Prod) (b : Bool)
    → Some group ≡ slice_get groups 0 → Some first ≡ slice_get group 0 → ((production : Production) → first ≡ prod_of production → is_list production ≡ b)
    → AreGroups sort had written → groups ≡ groups_of written → Some b ≡ had_after had (in_groups written)
standing_first sort had [] groups group first b is here list are same = absurd (none_one (sym (is ∙ ap (λ g. slice_get g 0) same)))
standing_first sort had ([] ∷ written) groups group first b is here list are same = absurd (no_true (sym are.0.0))
standing_first sort had ((production ∷ productions) ∷ written) groups group first b is here list are same =
    let one : group ≡ map prod_of (production ∷ productions) = some_one group (map prod_of (production ∷ productions)) (is ∙ ap (λ g. slice_get g 0) same) in
    let it : first ≡ prod_of production = some_one first (prod_of production) (here ∙ ap (λ g. slice_get g 0) one) in
    sym (ap (λ t. had_after (Some t) (productions ++ in_groups written)) (list production it)
    ∙ stays sort b (productions ++ in_groups written) (subst (λ t. AreProductions sort (Some t) (productions ++ in_groups written)) (list production it) are.1.3))

plain_list : (separator : List ℕ) → form.Plain ≡ form.UserList separator → ⊥
plain_list separator e = cc

prefix_list : (name separator : List ℕ) → form.Prefix name ≡ form.UserList separator → ⊥
prefix_list name separator e = cc

pub list_form : (first : Prod) (separator : List ℕ) → first.form ≡ form.UserList separator → (production : Production) → first ≡ prod_of production → is_list production ≡ true
list_form first separator is (Plain parts attributes) same = absurd (plain_list separator (sym (ap (λ p. p.form) same) ∙ is))
list_form first separator is (Prefix name sorts attributes) same = absurd (prefix_list name separator (sym (ap (λ p. p.form) same) ∙ is))
list_form first separator is (UserList sort text) same = refl

pub other_form : (first : Prod) → ((separator : List ℕ) → first.form ≡ form.UserList separator → ⊥) → (production : Production) → first ≡ prod_of production → is_list production ≡ false
other_form first none (Plain parts attributes) same = refl
other_form first none (Prefix name sorts attributes) same = refl
other_form first none (UserList sort text) same = absurd (none _ (ap (λ p. p.form) same))
