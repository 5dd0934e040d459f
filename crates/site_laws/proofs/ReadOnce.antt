-- Values that are read alike are the same, and so are the parts of values that are built alike.
use Rattle.std.proofs.Common.{◌≡◌, ℕ, cond, ◌==◌, Bool, true, false, List, [], Option, Some, None, refl, sym, ap, ◌∙◌}
use Rattle.std.proofs.lemmas.Bool.{eqb-true}
use Rattle.k_terms.specs.declared.value.Value.{Value, Value-F, Node, Items, Seq, Freezer, out-Value, roll-Value, roll-out-Value}
use Rattle.k_terms.specs.declared.value.Value.TheOpen.{Node as Node-F, Items as Items-F, Seq as Seq-F, Map as Map-F, List as List-F, Freezer as Freezer-F}
use Rattle.k_terms.specs.declared.value.Value.TheVariants.{outs-Node, outs-Items, outs-Seq, outs-Freezer}
use Rattle.k_terms.specs.Operators.{bounded, as_entries, as_members}
use Rattle.rule_terms.specs.Substitution.{as_sequence, as_items_of}
use Rattle.rule_terms.proofs.Defined.{same_some, let_through}

-- values that are read as the same list are the same
abbrev pub IsReadOnce : {A : Type 0} → (Value → Option (List A)) → Type 0
IsReadOnce {A} kind = (v w : Value) (vs : List A) → kind v ≡ Some vs → kind w ≡ Some vs → v ≡ w

from_layers : (v w : Value) (x : Value-F Value) → out-Value v ≡ x → out-Value w ≡ x → v ≡ w
from_layers v w x e f = sym (roll-out-Value v) ∙ ap roll-Value (e ∙ sym f) ∙ roll-out-Value w

sequence_level : (x : Value-F Value) (vs : List Value) → elim x [ Seq-F values ↦ Some values | _ ↦ None ] ≡ Some vs → x ≡ Seq-F vs
sequence_level (Seq-F values) vs e = ap Seq-F (same_some values vs e)
sequence_level _ vs e = cc

items_in : (b : Bool) (p q : ℕ) (values vs : List Value) → (q == p) ≡ b → cond b (Some values) None ≡ Some vs → Items-F q values ≡ Items-F p vs
items_in true p q values vs is e = λ i. Items-F (eqb-true q p is i) (same_some values vs e i)
items_in false p q values vs is e = cc

items_level : (p : ℕ) (x : Value-F Value) (vs : List Value)
    → elim x [ Items-F q values ↦ cond (q == p) (Some values) None | _ ↦ None ] ≡ Some vs → x ≡ Items-F p vs
items_level p (Items-F q values) vs e = items_in (q == p) p q values vs refl e
items_level p _ vs e = cc

entries_level : (x : Value-F Value) (es : List (Value × Value)) → elim x [ Map-F entries ↦ Some entries | _ ↦ None ] ≡ Some es → x ≡ Map-F es
entries_level (Map-F entries) es e = ap Map-F (same_some entries es e)
entries_level _ es e = cc

members_level : (x : Value-F Value) (vs : List Value) → elim x [ List-F members ↦ Some members | _ ↦ None ] ≡ Some vs → x ≡ List-F vs
members_level (List-F members) vs e = ap List-F (same_some members vs e)
members_level _ vs e = cc

pub sequence_once : IsReadOnce as_sequence
sequence_once v w vs e f = from_layers v w (Seq-F vs) (sequence_level (out-Value v) vs e) (sequence_level (out-Value w) vs f)

pub items_once : (p : ℕ) → IsReadOnce (as_items_of p)
items_once p v w vs e f = from_layers v w (Items-F p vs) (items_level p (out-Value v) vs e) (items_level p (out-Value w) vs f)

pub entries_once : IsReadOnce as_entries
entries_once v w es e f = from_layers v w (Map-F es) (entries_level (out-Value v) es e) (entries_level (out-Value w) es f)

pub members_once : IsReadOnce as_members
members_once v w vs e f = from_layers v w (List-F vs) (members_level (out-Value v) vs e) (members_level (out-Value w) vs f)

-- ---- the parts of a value

parts_in : Value-F Value → List Value
parts_in x = elim x [ Node-F _ vs ↦ vs | Items-F _ vs ↦ vs | Seq-F vs ↦ vs | Freezer-F _ _ vs ↦ vs | _ ↦ [] ]

same_parts : (x y : Value-F Value) → x ≡ y → parts_in x ≡ parts_in y
same_parts x y e = ap parts_in e

-- two values that are not too deep and the same
same_built : (v w u : Value) → bounded v ≡ Some u → bounded w ≡ Some u → out-Value v ≡ out-Value w
same_built v w u e f = ap out-Value (let_through _ v u e ∙ sym (let_through _ w u f))

pub node_parts : (p : ℕ) (vs ws : List Value) (u : Value) → bounded (Node p vs) ≡ Some u → bounded (Node p ws) ≡ Some u → vs ≡ ws
unfolding parts_in
node_parts p vs ws u e f = same_parts (Node-F p vs) (Node-F p ws) (sym (outs-Node p vs) ∙ same_built (Node p vs) (Node p ws) u e f ∙ outs-Node p ws)

pub items_parts : (p : ℕ) (vs ws : List Value) (u : Value) → bounded (Items p vs) ≡ Some u → bounded (Items p ws) ≡ Some u → vs ≡ ws
unfolding parts_in
items_parts p vs ws u e f = same_parts (Items-F p vs) (Items-F p ws) (sym (outs-Items p vs) ∙ same_built (Items p vs) (Items p ws) u e f ∙ outs-Items p ws)

pub sequence_parts : (vs ws : List Value) (u : Value) → bounded (Seq vs) ≡ Some u → bounded (Seq ws) ≡ Some u → vs ≡ ws
unfolding parts_in
sequence_parts vs ws u e f = same_parts (Seq-F vs) (Seq-F ws) (sym (outs-Seq vs) ∙ same_built (Seq vs) (Seq ws) u e f ∙ outs-Seq ws)

pub freezer_parts : (p place : ℕ) (vs ws : List Value) (u : Value) → bounded (Freezer p place vs) ≡ Some u
    → bounded (Freezer p place ws) ≡ Some u → vs ≡ ws
unfolding parts_in
freezer_parts p place vs ws u e f =
    same_parts (Freezer-F p place vs) (Freezer-F p place ws) (sym (outs-Freezer p place vs) ∙ same_built (Freezer p place vs) (Freezer p place ws) u e f ∙ outs-Freezer p place ws)
