-- A language of threads over one memory, on which the definitions are tried: its sorts, its declared cells and its rules
-- with all their cells.
use Rattle.std.specs.Prelude.{ℕ, Bool, false, true, List, [], ◌∷◌, Option, Some, None, pos, codes}
use Rattle.k_terms.specs.declared.value.Value.{Value, Int, Id, Node, Items}
use Rattle.k_terms.specs.declared.op.Op.TheVariants.{GtInt, SizeMap}
use Rattle.k_terms.specs.Sorts.{SortOrder}
use Rattle.rule_terms.specs.declared.defs.Kind.{Kind}
use Rattle.rule_terms.specs.declared.defs.Kind.TheVariants.{Cells as CellsKind, Seq as SeqKind, Map as MapKind}
use Rattle.rule_terms.specs.declared.defs.CellShape.{CellShape}
use Rattle.rule_terms.specs.declared.pattern.Pattern.{Var, Lit, Node as NodeP, Items as ItemsP, Apply}
use Rattle.rule_terms.specs.declared.pattern.Body.{Body, Cells, Seq, Map}
use Rattle.rule_terms.specs.declared.pattern.CellPat.{CellPat}
use Rattle.rule_terms.specs.declared.rule.Cond.{Cond}
use Rattle.rule_terms.specs.declared.rule.Cond.TheVariants.{Holds}
use Rattle.rule_terms.specs.declared.rule.Origin.TheVariants.{Written}
use Rattle.rule_terms.specs.declared.rule.Rule.{Rule}
use Rattle.rule_terms.specs.Language.{Language}

-- Commands are of sort 10 and their lists of sort 11. Productions: 1 get, 2 set, 3 new, 4 count, 5 quit, 6 pair, 7 kill,
-- 8 spawn, 9 the list of commands.
abbrev pub sorts : SortOrder
sorts = record { steps = []; productions = 10 ∷ 10 ∷ 10 ∷ 10 ∷ 10 ∷ 10 ∷ 10 ∷ 10 ∷ 11 ∷ [] }

-- declared cells: 0 T, 1 threads, 2 thread, 3 k, 4 env, 5 mem
abbrev pub shape : List ℕ → Option ℕ → Bool → Kind → CellShape
shape name parent many kind = record { name = name; parent = parent; many = many; kind = kind }

abbrev pub shapes : List CellShape
shapes =
    shape (codes "T") None false CellsKind
    ∷ shape (codes "threads") (Some 0) false CellsKind
    ∷ shape (codes "thread") (Some 1) true CellsKind
    ∷ shape (codes "k") (Some 2) false SeqKind
    ∷ shape (codes "env") (Some 2) false MapKind
    ∷ shape (codes "mem") (Some 0) false MapKind
    ∷ []

abbrev pub leaf : ℕ → ℕ → Body → CellPat
leaf cell mark body = record { cell = cell; mark = mark; body = body }

abbrev pub inner : ℕ → ℕ → List CellPat → Option ℕ → CellPat
inner cell mark children rest = record { cell = cell; mark = mark; body = Cells children rest }

-- the cells around threads, which have the marks 0 and 1
abbrev pub around : List CellPat → Option ℕ → List CellPat → ℕ → CellPat
around threads rest others whole = inner 0 0 (inner 1 1 threads rest ∷ others) (Some whole)

-- one thread with its sequence, and the memory
abbrev pub with_memory : Body → Body → ℕ → ℕ → ℕ → CellPat
with_memory sequence memory a b c = around (inner 2 2 (leaf 3 3 sequence ∷ []) (Some a) ∷ []) (Some b) (leaf 5 4 memory ∷ []) c

-- rule C:Cmd ; Cs:Cmds => C ~> Cs
abbrev pub next_command : Rule
next_command = record {
  origin = Written 1;
  vars = 10 ∷ 11 ∷ 0 ∷ 9 ∷ 9 ∷ 9 ∷ [];
  left = around (inner 2 2 (leaf 3 3 (Seq (ItemsP 9 (Var 0 ∷ []) (Some 1) ∷ []) (Some 2)) ∷ []) (Some 3) ∷ []) (Some 4) [] 5;
  right = around (inner 2 2 (leaf 3 3 (Seq (Var 0 ∷ Var 1 ∷ []) (Some 2)) ∷ []) (Some 3) ∷ []) (Some 4) [] 5;
  when = [];
}

-- rule .Cmds => .
abbrev pub no_command : Rule
no_command = record {
  origin = Written 2;
  vars = 0 ∷ 9 ∷ 9 ∷ 9 ∷ [];
  left = around (inner 2 2 (leaf 3 3 (Seq (ItemsP 9 [] None ∷ []) (Some 0)) ∷ []) (Some 1) ∷ []) (Some 2) [] 3;
  right = around (inner 2 2 (leaf 3 3 (Seq [] (Some 0)) ∷ []) (Some 1) ∷ []) (Some 2) [] 3;
  when = [];
}

-- rule <k> get X:Id => . ...</k> <mem>... X |-> _ ...</mem>
abbrev pub get : Rule
get = record {
  origin = Written 3;
  vars = 6 ∷ 1 ∷ 0 ∷ 7 ∷ 9 ∷ 9 ∷ 9 ∷ [];
  left = with_memory (Seq (NodeP 1 (Var 0 ∷ []) ∷ []) (Some 2)) (Map ((Var 0, Var 1) ∷ []) (Some 3)) 4 5 6;
  right = with_memory (Seq [] (Some 2)) (Map ((Var 0, Var 1) ∷ []) (Some 3)) 4 5 6;
  when = [];
}

-- rule <k> set X:Id N:Int => . ...</k> <mem>... X |-> (_ => N) ...</mem>
abbrev pub set : Rule
set = record {
  origin = Written 4;
  vars = 6 ∷ 3 ∷ 0 ∷ 7 ∷ 9 ∷ 9 ∷ 9 ∷ 1 ∷ [];
  left = with_memory (Seq (NodeP 2 (Var 0 ∷ Var 1 ∷ []) ∷ []) (Some 2)) (Map ((Var 0, Var 7) ∷ []) (Some 3)) 4 5 6;
  right = with_memory (Seq [] (Some 2)) (Map ((Var 0, Var 1) ∷ []) (Some 3)) 4 5 6;
  when = [];
}

-- rule <k> new X:Id N:Int => . ...</k> <mem>... (.Map => X |-> N) ...</mem>
abbrev pub insert : Rule
insert = record {
  origin = Written 5;
  vars = 6 ∷ 3 ∷ 0 ∷ 7 ∷ 9 ∷ 9 ∷ 9 ∷ [];
  left = with_memory (Seq (NodeP 3 (Var 0 ∷ Var 1 ∷ []) ∷ []) (Some 2)) (Map [] (Some 3)) 4 5 6;
  right = with_memory (Seq [] (Some 2)) (Map ((Var 0, Var 1) ∷ []) (Some 3)) 4 5 6;
  when = [];
}

-- rule <k> count => . ...</k> <mem> M:Map </mem> when size(M) >Int 0
abbrev pub has_entries : Cond
has_entries = Holds (Apply GtInt (Apply SizeMap (Var 0 ∷ []) ∷ Lit (Int (pos 0)) ∷ []))

abbrev pub count : Rule
count = record {
  origin = Written 6;
  vars = 7 ∷ 0 ∷ 9 ∷ 9 ∷ 9 ∷ [];
  left = with_memory (Seq (NodeP 4 [] ∷ []) (Some 1)) (Map [] (Some 0)) 2 3 4;
  right = with_memory (Seq [] (Some 1)) (Map [] (Some 0)) 2 3 4;
  when = has_entries ∷ [];
}

-- rule <thread>... <k> spawn { Cs:Cmds } => . ...</k> <env> E:Map </env> ...</thread>
--   (.Bag => <thread> <k> Cs </k> <env> E </env> </thread>)
abbrev pub spawn : Rule
spawn = record {
  origin = Written 7;
  vars = 11 ∷ 7 ∷ 0 ∷ 9 ∷ 9 ∷ 9 ∷ [];
  left = around
      (inner 2 2 (leaf 3 3 (Seq (NodeP 8 (Var 0 ∷ []) ∷ []) (Some 2)) ∷ leaf 4 4 (Map [] (Some 1)) ∷ []) (Some 3) ∷ [])
      (Some 4) [] 5;
  right = around
      (inner 2 2 (leaf 3 3 (Seq [] (Some 2)) ∷ leaf 4 4 (Map [] (Some 1)) ∷ []) (Some 3)
      ∷ inner 2 5 (leaf 3 6 (Seq (Var 0 ∷ []) None) ∷ leaf 4 7 (Map [] (Some 1)) ∷ []) None ∷ [])
      (Some 4) [] 5;
  when = [];
}

-- rule (<thread>... <k> quit ...</k> ...</thread> => .Bag)
abbrev pub quit : Rule
quit = record {
  origin = Written 8;
  vars = 0 ∷ 9 ∷ 9 ∷ 9 ∷ [];
  left = around (inner 2 2 (leaf 3 3 (Seq (NodeP 5 [] ∷ []) (Some 0)) ∷ []) (Some 1) ∷ []) (Some 2) [] 3;
  right = around [] (Some 2) [] 3;
  when = [];
}

-- rule <threads> <thread>... <k> pair => . ...</k> ...</thread> <thread>...</thread> </threads>
abbrev pub pair : Rule
pair = record {
  origin = Written 9;
  vars = 0 ∷ 9 ∷ 9 ∷ 9 ∷ [];
  left = around
      (inner 2 2 (leaf 3 3 (Seq (NodeP 6 [] ∷ []) (Some 0)) ∷ []) (Some 1) ∷ inner 2 4 [] (Some 2) ∷ []) None [] 3;
  right = around (inner 2 2 (leaf 3 3 (Seq [] (Some 0)) ∷ []) (Some 1) ∷ inner 2 4 [] (Some 2) ∷ []) None [] 3;
  when = [];
}

-- rule <k> kill => . ...</k> (<thread>... <k> get _ ...</k> ...</thread> => .Bag)
abbrev pub kill : Rule
kill = record {
  origin = Written 10;
  vars = 6 ∷ 0 ∷ 0 ∷ 9 ∷ 9 ∷ 9 ∷ 9 ∷ [];
  left = around
      (inner 2 2 (leaf 3 3 (Seq (NodeP 7 [] ∷ []) (Some 1)) ∷ []) (Some 3)
      ∷ inner 2 4 (leaf 3 5 (Seq (NodeP 1 (Var 0 ∷ []) ∷ []) (Some 2)) ∷ []) (Some 4) ∷ [])
      (Some 5) [] 6;
  right = around (inner 2 2 (leaf 3 3 (Seq [] (Some 1)) ∷ []) (Some 3) ∷ []) (Some 5) [] 6;
  when = [];
}

abbrev pub language : Language
language = record {
  sorts = sorts;
  cells = shapes;
  rules = next_command ∷ no_command ∷ get ∷ set ∷ insert ∷ count ∷ spawn ∷ quit ∷ pair ∷ kill ∷ [];
  labels = codes "get_" ∷ codes "set__" ∷ codes "new__" ∷ codes "count" ∷ codes "quit" ∷ codes "pair" ∷ codes "kill" ∷ codes "spawn{_}" ∷ codes "_;_" ∷ [];
}

-- names of the memory, and commands
abbrev pub name_x : Value
name_x = Id (record { 0 = 30 })

abbrev pub name_y : Value
name_y = Id (record { 0 = 31 })

abbrev pub name_z : Value
name_z = Id (record { 0 = 32 })

abbrev pub number : ℕ → Value
number n = Int (pos n)

abbrev pub get_x : Value
get_x = Node 1 (name_x ∷ [])

abbrev pub set_x : ℕ → Value
set_x n = Node 2 (name_x ∷ number n ∷ [])

abbrev pub new_entry : Value → ℕ → Value
new_entry name n = Node 3 (name ∷ number n ∷ [])

abbrev pub count_command : Value
count_command = Node 4 []

abbrev pub quit_command : Value
quit_command = Node 5 []

abbrev pub pair_command : Value
pair_command = Node 6 []

abbrev pub kill_command : Value
kill_command = Node 7 []

abbrev pub commands : List Value → Value
commands vs = Items 9 vs

abbrev pub spawn_of : List Value → Value
spawn_of vs = Node 8 (commands vs ∷ [])

-- a command at the front, and the empty list of commands after it
abbrev pub front : Value → List Value
front v = v ∷ commands [] ∷ []
