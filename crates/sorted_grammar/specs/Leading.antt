-- Which sorts read no token, and which sort may be read where another one is, by the same tokens.
use Rattle.std.specs.Prelude.{◌≡◌, ◌≢◌, ℕ, ◌<◌, ◌≤◌, ◌⊎◌, ◌==◌, ◌&&◌, Bool, true, false, List, [], ◌∷◌, ◌++◌, length, Some, None}
use Rattle.std.specs.List.{list_any}
use Rattle.k_terms.specs.Sorts.{Below, sort_k, sort_kitem}
use Rattle.production_reader.specs.declared.prod.Form.TheVariants.{Plain, Prefix, UserList}
use Rattle.grammar_terms.specs.Cuts.{Has}
use Rattle.grammar_terms.specs.Grammar.{Syntax, order_of, production_at, is_list, step_from}
use Rattle.grammar_terms.specs.declared.production.Part.{Part}
use Rattle.grammar_terms.specs.declared.production.Part.TheVariants.{Sort}
use Rattle.grammar_terms.specs.declared.production.Production.{Production}

-- the number of the first sort that is not built in
abbrev pub first_declared : ℕ
first_declared = 10

-- A sort is nullable where it has a list production, or a production of nullable sorts alone; KItem and K are where a declared
-- sort is.
mutual
  pub data Nullable (g : Syntax) : ℕ → Type 0 where
    by_list : (production : Production) → Has g.prods production → is_list production.form ≡ true → Nullable g production.sort
    by_items : (production : Production) → Has g.prods production → AreNullable g production.items → Nullable g production.sort
    kitem_by : (sort : ℕ) → first_declared ≤ sort → Nullable g sort → Nullable g sort_kitem
    k_by : (sort : ℕ) → first_declared ≤ sort → Nullable g sort → Nullable g sort_k

  -- each of these items is a nullable sort
  pub data AreNullable (g : Syntax) : List Part → Type 0 where
    no_items : AreNullable g []
    more_items : (sort : ℕ) (items : List Part) → Nullable g sort → AreNullable g items → AreNullable g (Sort sort ∷ items)

-- a sort stands among items that are nullable sorts but for it
pub record IsAmidst (g : Syntax) (items : List Part) (sort : ℕ) : Type 0 where
  pub front : List Part
  pub back : List Part
  pub is : items ≡ front ++ Sort sort ∷ back
  pub in_front : AreNullable g front
  pub behind : AreNullable g back

-- a nullable sort stands among the items
pub record HasNullable (g : Syntax) (items : List Part) : Type 0 where
  pub sort : ℕ
  pub has : Has items (Sort sort)
  pub nullable : Nullable g sort

-- A production leads from its sort to the sort of an item whose other items are nullable. A list production leads to the sort
-- of its elements, and to its own where nothing stands between two of them and that sort is nullable. (A list production
-- that was read has one sort item; of several each would be the sort of elements.)
abbrev pub LeadsBy : Syntax → Production → ℕ → Type 0
LeadsBy g production to = elim production.form [
  | Plain ↦ IsAmidst g production.items to
  | Prefix word ↦ IsAmidst g production.items to
  | UserList separator ↦ Has production.items (Sort to) ⊎ ((production.sort ≡ to) × (separator ≡ []) × HasNullable g production.items)
]

-- a sort has a list production
abbrev pub has_list : List Production → ℕ → Bool
has_list prods sort = list_any (λ production. production.sort == sort && is_list production.form) prods

-- One sort leads to another by a production; KItem leads to each other sort below it without a list production, and K to KItem.
pub data Leads (g : Syntax) : ℕ → ℕ → Type 0 where
  by_production : (production : Production) (to : ℕ) → Has g.prods production → LeadsBy g production to → Leads g production.sort to
  from_kitem : (to : ℕ) → to < length g.names → to ≢ sort_kitem → Below (order_of g) to sort_kitem → has_list g.prods to ≡ false → Leads g sort_kitem to
  from_k : Leads g sort_k sort_kitem

-- in zero or more steps
pub data LeadsOn (g : Syntax) : ℕ → ℕ → Type 0 where
  here : (sort : ℕ) → LeadsOn g sort sort
  further : (from by to : ℕ) → Leads g from by → LeadsOn g by to → LeadsOn g from to

-- A production that is no subsort step lies on a cycle: what it leads to leads on to its own sort.
pub record IsCyclic (g : Syntax) (production : Production) : Type 0 where
  pub no_step : step_from production ≡ None
  pub to : ℕ
  pub leads : LeadsBy g production to
  pub back : LeadsOn g to production.sort

-- none of the productions up to this one lies on a cycle
abbrev pub HasNoneBelow : Syntax → ℕ → Type 0
HasNoneBelow g limit = (p : ℕ) (production : Production) → p < limit → production_at g.prods p ≡ Some production → IsCyclic g production → ⊥

-- the first production that lies on a cycle
pub record IsFirstCyclic (g : Syntax) (p : ℕ) : Type 0 where
  pub production : Production
  pub is : production_at g.prods p ≡ Some production
  pub cyclic : IsCyclic g production
  pub first : HasNoneBelow g p
