-- What `rules` answers follows from what its phases say.
use Rattle.std.proofs.Common.{◌≡◌, ◌⊎◌, inl, inr, ℕ, false, List, Option, Some, None, IfSome, refl, sym, ap, ◌∙◌, subst}
use Rattle.context_transform.specs.declared.fault.DefFault.{DefFault}
use Rattle.context_transform.specs.Assembling.{Assembly}
use Rattle.context_transform.specs.Told.{wants_memory}
use Rattle.rule_terms.specs.declared.defs.CellShape.{CellShape}
use Rattle.rule_terms.specs.declared.rule.Rule.{Rule}
use Rattle.rule_listing.specs.Lines.{lines_from}
use Rattle.krun.specs.declared.outcome.Outcome.{Outcome}
use Rattle.krun.specs.declared.outcome.Outcome.TheVariants.{Final, Budget, Shown, Usage, Definition, Unbuilt, Program, ReadFault, Memory as NoMemoryLeft}
use Rattle.krun.specs.declared.outcome.Which.TheVariants.{Definition as TheDefinition, Program as TheProgram}
use Rattle.krun.specs.Outcome.{run_word, IsReported}
use Rattle.krun.specs.Assembled.{FileDefines, IsUndefined}
use Rattle.krun.specs.Rules.{ListsOnly, MustList, lines_of}

-- what a file defines has its lines
pub lists_of_file : (file : Option (List ℕ)) (assembly : Assembly) (lines : List ℕ) (cells : List CellShape) (rules : List Rule) → cells ≡ assembly.tree.shapes → rules ≡ assembly.language.rules
    → lines ≡ lines_from assembly.grammar cells 1 rules → FileDefines file assembly → IfSome file (λ bytes. ListsOnly bytes lines)
lists_of_file file assembly lines cells rules same also are defines = of_file file defines
  where
    all : lines ≡ lines_of assembly
    all = are ∙ ap (λ shapes. lines_from assembly.grammar shapes 1 rules) same ∙ ap (λ rs. lines_from assembly.grammar assembly.tree.shapes 1 rs) also

    of_file : (told : Option (List ℕ)) → FileDefines told assembly → IfSome told (λ bytes. ListsOnly bytes lines)
    of_file None defines = tt
    of_file (Some bytes) defines = record { assembly = assembly; defined = defines; are = all }

-- ---- reports

-- what stopped is not shown, and is reported as it is or as want of memory
pub undefined_reported : (file : Option (List ℕ)) (rose : Type 0) (o reported : Outcome) → IsReported o reported → IsUndefined file rose o
    → (reported ≡ Shown → ⊥) × IsUndefined file rose reported
undefined_reported file rose (Definition fault) reported (inl same) h = subst (λ r. (r ≡ Shown → ⊥) × IsUndefined file rose r) (sym same) ((λ e. cc), h)
undefined_reported file rose (Definition fault) reported (inr memory) h = subst (λ r. (r ≡ Shown → ⊥) × IsUndefined file rose r) (sym memory) ((λ e. cc), tt)
undefined_reported file rose (ReadFault TheDefinition) reported same h = subst (λ r. (r ≡ Shown → ⊥) × IsUndefined file rose r) (sym same) ((λ e. cc), h)
undefined_reported file rose (ReadFault TheProgram) reported same h = elim h [ ]
undefined_reported file rose NoMemoryLeft reported same h = subst (λ r. (r ≡ Shown → ⊥) × IsUndefined file rose r) (sym same) ((λ e. cc), h)
undefined_reported file rose Unbuilt reported same h = elim h [ ]
undefined_reported file rose Final reported same h = elim h [ ]
undefined_reported file rose Budget reported same h = elim h [ ]
undefined_reported file rose Shown reported same h = elim h [ ]
undefined_reported file rose Usage reported same h = elim h [ ]
undefined_reported file rose (Program refusal) reported same h = elim h [ ]

-- ---- what must be answered

-- what a report of lines says of its outcome
pub record Listed (definition : Option (List ℕ)) (rose : Type 0) (outcome : Outcome) : Type 0 where
  pub lines : outcome ≡ Shown → (lines : List ℕ) × IfSome definition (λ bytes. ListsOnly bytes lines)
  pub stop : (outcome ≡ Shown → ⊥) → IsUndefined definition rose outcome

module _ (bytes : List ℕ) (rose : Type 0) (no_rose : rose → ⊥) where
  shown_must : (lines : List ℕ) (o : Outcome) → ListsOnly bytes lines → MustList bytes o → Shown ≡ o
  shown_must lines Shown only must = refl
  shown_must lines (Definition fault) only must = absurd (only.defined.no_fault fault must)
  shown_must lines Final only must = elim must [ ]
  shown_must lines Budget only must = elim must [ ]
  shown_must lines Usage only must = elim must [ ]
  shown_must lines Unbuilt only must = elim must [ ]
  shown_must lines (Program refusal) only must = elim must [ ]
  shown_must lines (ReadFault which) only must = elim must [ ]
  shown_must lines NoMemoryLeft only must = elim must [ ]

  fault_must : (fault : DefFault) (o : Outcome) → IsUndefined (Some bytes) rose (Definition fault) → MustList bytes o → Definition fault ≡ o
  fault_must fault Shown undefined must = absurd (undefined.0.none must.0 must.1)
  fault_must fault (Definition other) undefined must = ap Definition (sym (undefined.0.only other must))
  fault_must fault Final undefined must = elim must [ ]
  fault_must fault Budget undefined must = elim must [ ]
  fault_must fault Usage undefined must = elim must [ ]
  fault_must fault Unbuilt undefined must = elim must [ ]
  fault_must fault (Program refusal) undefined must = elim must [ ]
  fault_must fault (ReadFault which) undefined must = elim must [ ]
  fault_must fault NoMemoryLeft undefined must = elim must [ ]

  stopped_must : (outcome o : Outcome) → IsUndefined (Some bytes) rose outcome → MustList bytes o → (outcome ≡ o) ⊎ (outcome ≡ NoMemoryLeft)
  stopped_must (Definition fault) o stop must = inl (fault_must fault o stop must)
  stopped_must (ReadFault TheDefinition) o stop must = absurd (no_rose stop)
  stopped_must (ReadFault TheProgram) o stop must = elim stop [ ]
  stopped_must NoMemoryLeft o stop must = inr refl
  stopped_must Unbuilt o stop must = elim stop [ ]
  stopped_must Final o stop must = elim stop [ ]
  stopped_must Budget o stop must = elim stop [ ]
  stopped_must Shown o stop must = elim stop [ ]
  stopped_must Usage o stop must = elim stop [ ]
  stopped_must (Program refusal) o stop must = elim stop [ ]

  listed_must : (outcome o : Outcome) → Listed (Some bytes) rose outcome → MustList bytes o → (outcome ≡ o) ⊎ (outcome ≡ NoMemoryLeft)
  listed_must Shown o listed must = inl (shown_must (listed.lines refl).0 o (listed.lines refl).1 must)
  listed_must Final o listed must = stopped_must Final o (listed.stop (λ e. cc)) must
  listed_must Budget o listed must = stopped_must Budget o (listed.stop (λ e. cc)) must
  listed_must Usage o listed must = stopped_must Usage o (listed.stop (λ e. cc)) must
  listed_must (Definition fault) o listed must = stopped_must (Definition fault) o (listed.stop (λ e. cc)) must
  listed_must Unbuilt o listed must = stopped_must Unbuilt o (listed.stop (λ e. cc)) must
  listed_must (Program refusal) o listed must = stopped_must (Program refusal) o (listed.stop (λ e. cc)) must
  listed_must (ReadFault which) o listed must = stopped_must (ReadFault which) o (listed.stop (λ e. cc)) must
  listed_must NoMemoryLeft o listed must = inr refl

pub rules_where : (definition : Option (List ℕ)) (rose : Type 0) (outcome : Outcome) → Listed definition rose outcome
    → IfSome definition (λ bytes. (o : Outcome) → MustList bytes o → (rose → ⊥) → (outcome ≡ o) ⊎ (outcome ≡ NoMemoryLeft))
rules_where None rose outcome listed = tt
rules_where (Some bytes) rose outcome listed = λ o must no_rose. listed_must bytes rose no_rose outcome o listed must

-- the same by the name of the file
pub listed_of : (told : List ℕ → Option (List ℕ)) (rose : List ℕ → Type 0) (one first : List ℕ) (outcome : Outcome) → one ≡ first
    → (outcome ≡ Shown → (lines : List ℕ) × IfSome (told one) (λ bytes. ListsOnly bytes lines))
    → ((outcome ≡ Shown → ⊥) → IsUndefined (told one) (rose one) outcome)
    → Listed (told first) (rose first) outcome
listed_of told rose one first outcome same lines stop =
    subst (λ name. Listed (told name) (rose name) outcome) same (record { lines = lines; stop = stop })

-- lines are no run and no want of words, and a stop has its cause
module _ (definition : Option (List ℕ)) (rose : Type 0) where
  pub no_run : (outcome : Outcome) → Listed definition rose outcome → run_word outcome ≡ None
  no_run Final listed = elim (listed.stop (λ e. cc)) [ ]
  no_run Budget listed = elim (listed.stop (λ e. cc)) [ ]
  no_run Shown listed = refl
  no_run Usage listed = refl
  no_run (Definition fault) listed = refl
  no_run Unbuilt listed = refl
  no_run (Program refusal) listed = refl
  no_run (ReadFault which) listed = refl
  no_run NoMemoryLeft listed = refl

  pub no_usage : (outcome : Outcome) → Listed definition rose outcome → outcome ≡ Usage → ⊥
  no_usage outcome listed is = subst (IsUndefined definition rose) is (listed.stop (λ e. used (sym is ∙ e)))
    where
      used : Usage ≡ Shown → ⊥
      used e = cc

  pub first_fault : (outcome : Outcome) → Listed definition rose outcome → outcome ≡ ReadFault TheDefinition → rose
  first_fault outcome listed is = subst (IsUndefined definition rose) is (listed.stop (λ e. used (sym is ∙ e)))
    where
      used : ReadFault TheDefinition ≡ Shown → ⊥
      used e = cc

  pub proper_fault : (outcome : Outcome) → Listed definition rose outcome → (fault : DefFault) → outcome ≡ Definition fault → wants_memory fault ≡ false
  proper_fault outcome listed fault is = (subst (IsUndefined definition rose) is (listed.stop (λ e. used (sym is ∙ e)))).1
    where
      used : Definition fault ≡ Shown → ⊥
      used e = cc
