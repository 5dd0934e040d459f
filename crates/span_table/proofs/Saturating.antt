-- Rows of a span to which what they make in it is added until nothing is new.
use Rattle.std.proofs.Common.{ℕ, ◌≡◌, List, [], sym, subst}
use Rattle.grammar_terms.specs.declared.word.Word.{Word}
use Rattle.grammar_terms.specs.Cuts.{Has}
use Rattle.grammar_terms.specs.Grammar.{Syntax}
use Rattle.span_rows.specs.declared.row.Row.{Row}
use Rattle.span_rows.specs.Rows.{Kept, Adds, IsNear, IsSeed}
use Rattle.span_table.specs.Meaning.{AreSound}
use Rattle.span_table.specs.Table.{IsSaturated, KeepsSound, KeepsSoundAlone}
use Rattle.span_rows.proofs.Adding.{adds_through, grown}
use Rattle.span_table.proofs.Sounding.{adds_sound, says_near, says_seed}

-- nothing was new
pub saturated : (g : Syntax) (empty initial rows made after : List Row) → ((x : Row) → Has initial x → Has rows x) → Adds (IsNear g empty rows) [] made → Adds (Has made) rows after → after ≡ rows
    → IsSaturated g empty initial after
saturated g empty initial rows made after more near added same = record {
  grows = λ x has. added.grows x (more x has);
  covers = λ x is. (adds_through (IsNear g empty rows) made rows after near added).covers x (subst (λ r. IsNear g empty r x) same is);
}

pub saturated_alone : (g : Syntax) (initial rows made after : List Row) → ((x : Row) → Has initial x → Has rows x) → Adds (IsNear g rows rows) [] made → Adds (Has made) rows after → after ≡ rows
    → IsSaturated g after initial after
saturated_alone g initial rows made after more near added same =
    subst (λ empty. IsSaturated g empty initial after) (sym same) (saturated g rows initial rows made after more near added same)

pub near_sound : (g : Syntax) (empty initial rows made after : List Row) → KeepsSound g empty initial rows → Adds (IsNear g empty rows) [] made → Adds (Has made) rows after
    → KeepsSound g empty initial after
near_sound g empty initial rows made after keeps near added = λ words from past before behind sound.
    let now = keeps words from past before behind sound in
    adds_sound g words from past (IsNear g empty rows) rows after (adds_through (IsNear g empty rows) made rows after near added) now
    (λ x is. says_near g words from past empty rows x before behind now is)

pub near_sound_alone : (g : Syntax) (initial rows made after : List Row) → KeepsSoundAlone g initial rows → Adds (IsNear g rows rows) [] made → Adds (Has made) rows after
    → KeepsSoundAlone g initial after
near_sound_alone g initial rows made after keeps near added = λ words at sound.
    let now = keeps words at sound in
    adds_sound g words at at (IsNear g rows rows) rows after (adds_through (IsNear g rows rows) made rows after near added) now
    (λ x is. says_near g words at at rows rows x now now now is)

pub seeds_sound : (g : Syntax) (seeds rows : List Row) → Adds (IsSeed g) [] seeds → KeepsSoundAlone g seeds rows → (words : List Word) (at : ℕ) → AreSound g words at at rows
seeds_sound g seeds rows added keeps = λ words at.
    keeps words at (adds_sound g words at at (IsSeed g) [] seeds added (λ x none. absurd none) (λ x seed. says_seed g words at x seed))

pub seeds_kept : (g : Syntax) (seeds rows : List Row) → Adds (IsSeed g) [] seeds → IsSaturated g rows seeds rows → (made : Row) → IsSeed g made → Kept rows made
seeds_kept g seeds rows added saturated = λ made seed. grown seeds rows made saturated.grows (added.covers made seed)
