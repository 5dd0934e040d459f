-- The graph of the imports.
use Rattle.std.proofs.Common.{◌≡◌, ℕ, zero, suc, ◌<◌, true, List, [], ◌∷◌, map, length, inl, inr, Result, Ok, Err, MatchResult, sym, ap, subst, ◌∙◌}
use Rattle.std.specs.Prelude.{IsErrAnd}
use Rattle.std.specs.List.{list_all}
use Rattle.std.proofs.lemmas.Bool.{and_parts}
use Rattle.std.proofs.lemmas.List.{length-map}
use Rattle.import_order.specs.Imports.{Has, imports_of, AreWithin, HasNoCycle}
use Rattle.production_reader.specs.Allowed.{is_among}
use Rattle.file_reader.specs.declared.sentence.Sentence.{Sentence}
use Rattle.file_reader.specs.declared.file.FileModules.{FileModules}
use Rattle.module_reader.specs.Modules.{Imported, IsOrdered, AreFound}
use Rattle.module_reader.specs.declared.fault.ModuleFault.{ModuleFault}
use Rattle.module_reader.specs.declared.fault.ModuleFault.TheVariants.{Expected, NoModule, ImportCycle, TwoModules, Memory}
use Rattle.module_reader.specs.Joining.{module_number, graph_by, IsGraph, IsFirstCycle, IsCyclic, IsJoined, IsRefused}
use Rattle.module_reader.proofs.Naming.{number_within}

numbers_within : (names imports : List (List ℕ)) (x : ℕ) → list_all (is_among names) imports ≡ true → Has (map (module_number names) imports) x → x < length names
numbers_within names [] x all h = absurd h
numbers_within names (name ∷ imports) x all (inl e) =
    subst (λ n. n < length names) e (number_within names name (and_parts (is_among names name) (list_all (is_among names) imports) all).0)
numbers_within names (name ∷ imports) x all (inr h) = numbers_within names imports x (and_parts (is_among names name) (list_all (is_among names) imports) all).1 h

imports_within : (names : List (List ℕ)) (imports : List (List (List ℕ))) (m x : ℕ) → AreFound names imports → Has (imports_of (graph_by names imports) m) x → x < length names
imports_within names [] m x all h = absurd h
imports_within names (part ∷ imports) zero x all h = numbers_within names part x (and_parts (list_all (is_among names) part) (list_all (list_all (is_among names)) imports) all).0 h
imports_within names (part ∷ imports) (suc m) x all h =
    imports_within names imports m x (and_parts (list_all (is_among names) part) (list_all (list_all (is_among names)) imports) all).1 h

pub graph_length : (names : List (List ℕ)) (imports : List (List (List ℕ))) → length (graph_by names imports) ≡ length imports
graph_length names imports = length-map imports (map (module_number names))

-- where each import names a module, its number is one of theirs
pub graph_within : (names : List (List ℕ)) (imports : List (List (List ℕ))) → length imports ≡ length names → AreFound names imports → AreWithin (graph_by names imports)
graph_within names imports long all m x h = subst (λ n. x < n) (sym (graph_length names imports ∙ long)) (imports_within names imports m x all h)

-- ---- the forms that the code's goals have

-- a fault that is handed on
pub handed_on : {V : Type 0} (P : V → Type 0) (Q : ModuleFault → Type 0) (result : Result V ModuleFault) (fault : ModuleFault) → IsErrAnd result (λ e. e ≡ fault) → Q fault → MatchResult result P Q
handed_on P Q (Ok value) fault none is = absurd none
handed_on P Q (Err e) fault same is = subst Q (sym same) is

pub graph_is : (modules lent names : List (List ℕ)) (imports lent_imports : List (List (List ℕ))) (graph : List (List ℕ)) → modules ≡ lent → lent ≡ names → lent_imports ≡ imports → IsGraph modules lent_imports graph
    → IsGraph names imports graph
graph_is modules lent names imports lent_imports graph first second third is =
    subst (λ ns. IsGraph ns imports graph) (first ∙ second) (subst (λ im. IsGraph modules im graph) third is)

module _ (names : List (List ℕ)) (imports : List (List (List ℕ))) (graph : List (List ℕ)) (is : IsGraph names imports graph) where
  pub within : length imports ≡ length names → AreWithin graph
  within long = subst AreWithin (sym is.1) (graph_within names imports long is.0)

  pub cyclic_refused : (fault : ModuleFault) → IsCyclic names graph fault → IsRefused names imports fault
  cyclic_refused (ImportCycle name) cycle = (is.0, subst (λ g. IsFirstCycle names g name) is.1 cycle)
  cyclic_refused Memory cycle = tt
  cyclic_refused (NoModule name) cycle = absurd cycle
  cyclic_refused (Expected at) cycle = absurd cycle
  cyclic_refused (TwoModules name) cycle = absurd cycle

  pub graph_long : length imports ≡ length names → length graph ≡ length names
  graph_long long = ap length is.1 ∙ graph_length names imports ∙ long

  pub ordered : (sentences : List (List Sentence)) → 0 < length names → length imports ≡ length names → length sentences ≡ length names → HasNoCycle graph
      → IsOrdered (record { sentences = sentences; graph = graph })
  ordered sentences some long same acyclic = record {
    some = subst (λ n. 0 < n) (sym (graph_long long)) some;
    same = same ∙ sym (graph_long long);
    within = within long;
    acyclic = acyclic;
  }

pub joined : (file : FileModules) (graph : List (List ℕ)) (value : Imported) → IsGraph file.names file.imports graph → HasNoCycle graph → value ≡ record { sentences = file.sentences; graph = graph } → IsJoined file value
joined file graph value is acyclic same = record {
  found = is.0;
  acyclic = subst HasNoCycle is.1 acyclic;
  sentences = ap (λ v. v.sentences) same;
  graph = ap (λ v. v.graph) same ∙ is.1;
}
