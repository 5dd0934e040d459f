-- Lists that are added one after the other.
use Rattle.std.proofs.Common.{◌≡◌, List, ◌++◌, ap, ◌∙◌, append_assoc}

-- what is added in two steps, or in three
pub added_two : {X : Type 0} (before one two front back : List X) → one ≡ before ++ front → two ≡ one ++ back → two ≡ before ++ (front ++ back)
added_two before one two front back first second = second ∙ ap (λ xs. xs ++ back) first ∙ append_assoc before front back

pub added_three : {X : Type 0} (before one two three front middle back : List X) → one ≡ before ++ front → two ≡ one ++ middle → three ≡ two ++ back
    → three ≡ before ++ (front ++ middle ++ back)
added_three before one two three front middle back first second third =
    added_two before two three (front ++ middle) back (added_two before one two front middle first second) third
