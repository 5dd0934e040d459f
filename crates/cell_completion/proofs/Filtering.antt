-- Lists that are parted by a test.
use Rattle.std.proofs.Common.{◌≡◌, Bool, not, List, filter, map}

-- those seen that pass, and the others
pub record AreParted {X : Type 0} (test : X → Bool) (seen passed others : List X) : Type 0 where
  pub passed_are : passed ≡ filter test seen
  pub others_are : others ≡ filter (λ x. not (test x)) seen

-- the same, of what is taken out of those that pass
pub record AreTaken {X Y : Type 0} (test : X → Bool) (take_out : X → Y) (seen : List X) (passed : List Y) (others : List X) : Type 0 where
  pub passed_are : passed ≡ map take_out (filter test seen)
  pub others_are : others ≡ filter (λ x. not (test x)) seen
