-- The steps of a walk keep what holds of it, and lead to what it led to.
use Rattle.std.proofs.Common.{arith, inl, inr, ⊎_elim, ◌⊎◌, ◌≡◌, ◌≢◌, ℕ, suc, zero, ◌+◌, ◌<◌, ◌≤◌, List, [], ◌∷◌, ◌++◌, length, get_or, set, take, drop, reverse, refl, sym, ap, subst, ◌∙◌, append_assoc, append-nil, add-one, length-set}
use Rattle.std.specs.List.{concat}
use Rattle.std.proofs.lemmas.List.{take_more, take_all, drop_all, get_or-set_same, get_or-set_other, reverse-append}
use Rattle.std.proofs.Math.Seq.{drop-cons}
use Rattle.import_order.specs.declared.walk.Mark.{Mark}
use Rattle.import_order.specs.declared.walk.Mark.TheVariants.{Unseen, Open, Done}
use Rattle.import_order.specs.declared.walk.Frame.{Frame}
use Rattle.import_order.specs.declared.walk.Walk.{Walk}
use Rattle.import_order.specs.Imports.{Has, imports_of, AreWithin, LeadsToCycle, Reaches, by_one}
use Rattle.import_order.specs.Order.{firsts, AreClosures, closes, none, next}
use Rattle.import_order.specs.Walking.{mark_of, open_in, IsNext, IsHeld, AreMarks, AreLinked, IsWalking, IsWalk, LeadsTo, worth, worth_of, steps_of, IsStep, IsVisited}
use Rattle.import_order.proofs.Members.{has_left, has_right, has_either, has_last, has_push, has_at, same_or_not, has_same}
use Rattle.import_order.proofs.Firsts.{firsts_has, firsts_left, firsts_right, firsts_within, firsts_new}
use Rattle.import_order.proofs.Closures.{one_more, and_on}

-- what the marks tell apart
pub marked_at : (marks : List Mark) (m x : ℕ) (mark : Mark) → m < length marks → x ≡ m → mark_of (set marks m mark) x ≡ mark
marked_at marks m x mark within e = ap (mark_of (set marks m mark)) e ∙ get_or-set_same marks m mark Unseen within

pub marked_else : (marks : List Mark) (m x : ℕ) (mark : Mark) → x ≢ m → mark_of (set marks m mark) x ≡ mark_of marks x
marked_else marks m x mark other = get_or-set_other marks m x mark Unseen other

pub mark_cases : (mark : Mark) → (mark ≡ Unseen → ⊥) → (mark ≡ Open) ⊎ (mark ≡ Done)
mark_cases Unseen seen = absurd (seen refl)
mark_cases Open seen = inl refl
mark_cases Done seen = inr refl

-- one mark is set
pub worth_set : (graph : List (List ℕ)) (marks : List Mark) (m : ℕ) (mark : Mark) → m < length marks → length marks ≡ length graph
    → worth_of graph (set marks m mark) + worth (mark_of marks m) (length (imports_of graph m)) ≡ worth_of graph marks + worth mark (length (imports_of graph m))
worth_set graph [] m mark within long = absurd (omega (arith, within))
worth_set [] (k ∷ marks) m mark within long = absurd (omega (arith, long))
worth_set (imports ∷ graph) (k ∷ marks) zero mark within long = omega arith
worth_set (imports ∷ graph) (k ∷ marks) (suc m) mark within long =
    let rest = worth_set graph marks m mark (omega (arith, within)) (omega (arith, long)) in omega (arith, rest)

-- a module that is not seen is opened
pub open_marks : (marks : List Mark) (opened order : List ℕ) (m : ℕ) → AreMarks marks opened order → mark_of marks m ≡ Unseen → m < length marks → AreMarks (set marks m Open) (m ∷ opened) order
open_marks marks opened order m marked unseen inside = record {
  in_order = λ x e.
      ⊎_elim
      (λ (s : x ≡ m). let is = marked_at marks m x Open inside s in absurd (cc))
      (λ (n : x ≢ m). marked.in_order x (sym (marked_else marks m x Open n) ∙ e))
      (same_or_not x m);
  in_frames = λ x e.
      ⊎_elim
      (λ (s : x ≡ m). inl (sym s))
      (λ (n : x ≢ m). inr (marked.in_frames x (sym (marked_else marks m x Open n) ∙ e)))
      (same_or_not x m);
  is_done = λ x h.
      ⊎_elim
      (λ (s : x ≡ m). let is = marked.is_done m (has_same order x m s h) in absurd (cc))
      (λ (n : x ≢ m). marked_else marks m x Open n ∙ marked.is_done x h)
      (same_or_not x m);
  is_open = λ x h.
      ⊎_elim
      (λ (s : x ≡ m). marked_at marks m x Open inside s)
      (λ (n : x ≢ m). marked_else marks m x Open n ∙ marked.is_open x (⊎_elim (λ (s : m ≡ x). absurd (n (sym s))) (λ (r : Has opened x). r) h))
      (same_or_not x m);
}

module _ (graph : List (List ℕ)) where
  -- closures of several modules, all of whose modules stand in an order
  pub record HasHeldParts (ms order : List ℕ) : Type 0 where
    pub parts : List (List ℕ)
    pub closures : AreClosures graph ms parts
    pub within : (x : ℕ) → Has (concat parts) x → Has order x

  pub held_parts : (ms order : List ℕ) → ((m : ℕ) → Has ms m → IsHeld graph order m) → HasHeldParts ms order
  held_parts [] order all = record { parts = []; closures = none; within = λ x h. absurd h }
  held_parts (m ∷ ms) order all =
      let one = all m (inl refl) in
      let rest = held_parts ms order (λ x h. all x (inr h)) in
      record {
        parts = one.closure ∷ rest.parts;
        closures = next m ms one.closure rest.parts one.is rest.closures;
        within = λ x h. ⊎_elim (λ (l : Has one.closure x). one.held x l) (λ (r : Has (concat rest.parts) x). rest.within x r) (has_either one.closure (concat rest.parts) x h);
      }

  pub held_more : (order more : List ℕ) (m : ℕ) → ((x : ℕ) → Has order x → Has more x) → IsHeld graph order m → IsHeld graph more m
  held_more order more m all held = record { closure = held.closure; is = held.is; held = λ x h. all x (held.held x h) }

  -- a module all of whose imports are held is held with itself
  pub held_last : (order : List ℕ) (m : ℕ) → ((x : ℕ) → Has (imports_of graph m) x → IsHeld graph order x) → IsHeld graph (order ++ m ∷ []) m
  held_last order m all =
      let parts = held_parts (imports_of graph m) order all in
      record {
        closure = firsts (concat parts.parts ++ m ∷ []);
        is = closes m (firsts (concat parts.parts ++ m ∷ [])) parts.parts parts.closures refl;
        held = λ x h.
            ⊎_elim
            (λ (l : Has (concat parts.parts) x). has_left order (m ∷ []) x (parts.within x l))
            (λ (e : m ≡ x). has_same (order ++ m ∷ []) m x e (has_last order m))
            (has_push (concat parts.parts) m x (firsts_has (concat parts.parts ++ m ∷ []) x h));
      }

  pub linked_more : (frames : List Frame) (order more above : List ℕ) → ((x : ℕ) → Has order x → Has more x) → AreLinked graph order above frames → AreLinked graph more above frames
  linked_more [] order more above all linked = tt
  linked_more (frame ∷ below) order more above all linked = (
    λ x h. ⊎_elim (λ (l : Has above x). has_left above more x l) (λ (r : Has order x). has_right above more x (all x r)) (has_either above order x (linked.0 x h)),
    linked.1,
    linked_more below order more (frame.importer ∷ []) all linked.2,
  )

  pub linked_close : (frames : List Frame) (order : List ℕ) (m : ℕ) → AreLinked graph order (m ∷ []) frames → AreLinked graph (order ++ m ∷ []) [] frames
  linked_close [] order m linked = tt
  linked_close (frame ∷ below) order m linked = (
    λ x h. ⊎_elim (λ (e : m ≡ x). has_same (order ++ m ∷ []) m x e (has_last order m)) (λ (r : Has order x). has_left order (m ∷ []) x r) (linked.0 x h),
    λ x h. absurd h,
    linked_more below order (order ++ m ∷ []) (frame.importer ∷ []) (λ x h. has_left order (m ∷ []) x h) linked.2,
  )

  -- modules of frames lead to that of the top one
  pub leads_up : (below : List Frame) (top : Frame) (order above : List ℕ) (x : ℕ) → AreLinked graph order above (top ∷ below) → Has (open_in below) x → Reaches graph x top.importer
  leads_up [] top order above x linked h = absurd h
  leads_up (frame ∷ below) top order above x linked (inl e) =
      subst (λ y. Reaches graph y top.importer) e (by_one frame.importer top.importer (linked.2.1 top.importer (inl refl)))
  leads_up (frame ∷ below) top order above x linked (inr h) =
      one_more graph x frame.importer top.importer (leads_up below frame order (top.importer ∷ []) x linked.2 h) (linked.2.1 top.importer (inl refl))

  pub cycle_of : (below : List Frame) (top : Frame) (order above : List ℕ) (x : ℕ) → AreLinked graph order above (top ∷ below) → Has (open_in (top ∷ below)) x → Has (imports_of graph top.importer) x
      → LeadsToCycle graph (open_in (top ∷ below))
  cycle_of below top order above x linked (inl e) h =
      record {
        root = x;
        is_root = inl e;
        at = x;
        leads = inl refl;
        cycle = subst (λ y. Reaches graph y x) e (by_one top.importer x h);
      }
  cycle_of below top order above x linked (inr r) h =
      record {
        root = x;
        is_root = inr r;
        at = x;
        leads = inl refl;
        cycle = one_more graph x top.importer x (leads_up below top order above x linked r) h;
      }

  abbrev pub moved_on : Frame → Frame
  moved_on top = record { importer = top.importer; next = top.next + 1 }

  module _ (marks : List Mark) (top : Frame) (below : List Frame) (order : List ℕ) (w : IsWalking graph marks (top ∷ below) order) where
    absent : Has order top.importer → ⊥
    absent h = let done = w.marked.is_done top.importer h in let opened = w.marked.is_open top.importer (inl refl) in absurd (cc)

    inside : top.importer < length marks
    inside = let fits = w.within top.importer (inl refl) in omega (arith, fits, w.long)

    -- ---- all imports were looked at

    module _ (over : length (imports_of graph top.importer) ≤ top.next) where
      all_held : (x : ℕ) → Has (imports_of graph top.importer) x → IsHeld graph order x
      all_held x h = w.held x (w.linked.0 x (subst (λ l. Has l x) (sym (take_all top.next (imports_of graph top.importer) over)) h))

      close_marks : AreMarks (set marks top.importer Done) (open_in below) (order ++ top.importer ∷ [])
      close_marks = record {
        in_order = λ x e.
            ⊎_elim
            (λ (s : x ≡ top.importer). has_same (order ++ top.importer ∷ []) top.importer x (sym s) (has_last order top.importer))
            (λ (n : x ≢ top.importer). has_left order (top.importer ∷ []) x (w.marked.in_order x (sym (marked_else marks top.importer x Done n) ∙ e)))
            (same_or_not x top.importer);
        in_frames = λ x e.
            ⊎_elim
            (λ (s : x ≡ top.importer). let done = marked_at marks top.importer x Done inside s in absurd (cc))
            (λ (n : x ≢ top.importer).
            ⊎_elim (λ (s : top.importer ≡ x). absurd (n (sym s))) (λ (r : Has (open_in below) x). r)
            (w.marked.in_frames x (sym (marked_else marks top.importer x Done n) ∙ e)))
            (same_or_not x top.importer);
        is_done = λ x h.
            ⊎_elim
            (λ (s : x ≡ top.importer). marked_at marks top.importer x Done inside s)
            (λ (n : x ≢ top.importer).
            marked_else marks top.importer x Done n
            ∙ w.marked.is_done x (⊎_elim (λ (l : Has order x). l) (λ (s : top.importer ≡ x). absurd (n (sym s))) (has_push order top.importer x h)))
            (same_or_not x top.importer);
        is_open = λ x h.
            ⊎_elim
            (λ (s : x ≡ top.importer). absurd (w.apart.0 (has_same (open_in below) x top.importer s h)))
            (λ (n : x ≢ top.importer). marked_else marks top.importer x Done n ∙ w.marked.is_open x (inr h))
            (same_or_not x top.importer);
      }

      pub close_once : firsts (order ++ top.importer ∷ []) ≡ order ++ top.importer ∷ []
      close_once = firsts_new order top.importer absent ∙ ap (λ o. o ++ top.importer ∷ []) w.once

      pub close_walking : IsWalking graph (set marks top.importer Done) below (order ++ top.importer ∷ [])
      close_walking = record {
        long = length-set marks top.importer Done ∙ w.long;
        once = close_once;
        held = λ x h.
            ⊎_elim
            (λ (l : Has order x). held_more order (order ++ top.importer ∷ []) x (λ y has. has_left order (top.importer ∷ []) y has) (w.held x l))
            (λ (s : top.importer ≡ x). subst (IsHeld graph (order ++ top.importer ∷ [])) s (held_last order top.importer all_held))
            (has_push order top.importer x h);
        marked = close_marks;
        apart = w.apart.1;
        linked = linked_close below order top.importer w.linked.2;
        within = λ x h. w.within x (inr h);
      }

      pub close_leads : (last : List ℕ) → LeadsTo graph below (order ++ top.importer ∷ []) last → LeadsTo graph (top ∷ below) order last
      close_leads last leads = (
        [],
        subst (λ ms. AreClosures graph ms []) (sym (drop_all top.next (imports_of graph top.importer) over)) none,
        subst (λ o. LeadsTo graph below o last) (sym close_once) leads,
      )

      pub close_fewer : worth_of graph (set marks top.importer Done) + steps_of graph below < worth_of graph marks + steps_of graph (top ∷ below)
      close_fewer =
          let opened = ap (λ k. worth k (length (imports_of graph top.importer))) (w.marked.is_open top.importer (inl refl)) in
          let all = worth_set graph marks top.importer Done inside w.long in
          omega (arith, opened, all)

    -- ---- one more import is looked at

    module _ (more : top.next < length (imports_of graph top.importer)) where
      abbrev pub looked_at : ℕ
      looked_at = get_or (imports_of graph top.importer) top.next 0

      pub is_import : Has (imports_of graph top.importer) looked_at
      is_import = has_at (imports_of graph top.importer) top.next 0 more

      taken : (x : ℕ) → Has (take (top.next + 1) (imports_of graph top.importer)) x → Has (take top.next (imports_of graph top.importer)) x ⊎ (looked_at ≡ x)
      taken x h = has_push (take top.next (imports_of graph top.importer)) looked_at x (subst (λ l. Has l x) (take_more (imports_of graph top.importer) top.next 0 more) h)

      dropped : drop top.next (imports_of graph top.importer) ≡ looked_at ∷ drop (top.next + 1) (imports_of graph top.importer)
      dropped = rw add-one (drop-cons (imports_of graph top.importer) top.next 0 more)

      pub open_cycle : mark_of marks looked_at ≡ Open → LeadsToCycle graph (open_in (top ∷ below))
      open_cycle opened = cycle_of below top order [] looked_at w.linked (w.marked.in_frames looked_at opened) is_import

      pub looked_inside : AreWithin graph → looked_at < length marks
      looked_inside within = let fits = within top.importer looked_at is_import in omega (arith, fits, w.long)

      module _ (done : mark_of marks looked_at ≡ Done) where
        pub done_walking : IsWalking graph marks (moved_on top ∷ below) order
        done_walking = record {
          long = w.long;
          once = w.once;
          held = w.held;
          marked = w.marked;
          apart = w.apart;
          linked = (
            λ x h. ⊎_elim (λ (l : Has (take top.next (imports_of graph top.importer)) x). w.linked.0 x l) (λ (e : looked_at ≡ x). has_same order looked_at x e (w.marked.in_order looked_at done)) (taken x h),
            w.linked.1,
            w.linked.2,
          );
          within = w.within;
        }

        pub done_leads : (last : List ℕ) → LeadsTo graph (moved_on top ∷ below) order last → LeadsTo graph (top ∷ below) order last
        done_leads last leads =
            let held = w.held looked_at (w.marked.in_order looked_at done) in (
              held.closure ∷ leads.0,
              subst (λ ms. AreClosures graph ms (held.closure ∷ leads.0)) (sym dropped) (next looked_at (drop (top.next + 1) (imports_of graph top.importer)) held.closure leads.0 held.is leads.1),
              subst (λ o. LeadsTo graph below o last)
                  (sym (ap (λ l. firsts (order ++ l)) (append_assoc held.closure (concat leads.0) (top.importer ∷ [])) ∙ firsts_within order held.closure (concat leads.0 ++ top.importer ∷ []) held.held))
                  leads.2,
            )

        pub done_fewer : worth_of graph marks + steps_of graph (moved_on top ∷ below) < worth_of graph marks + steps_of graph (top ∷ below)
        done_fewer = omega (arith, more)

      module _ (unseen : mark_of marks looked_at ≡ Unseen) (within : AreWithin graph) where
        abbrev pub opened : Frame
        opened = record { importer = looked_at; next = 0 }

        not_open : Has (open_in (top ∷ below)) looked_at → ⊥
        not_open h = let is = w.marked.is_open looked_at h in absurd (cc)

        pub open_walking : IsWalking graph (set marks looked_at Open) (opened ∷ moved_on top ∷ below) order
        open_walking = record {
          long = length-set marks looked_at Open ∙ w.long;
          once = w.once;
          held = w.held;
          marked = open_marks marks (open_in (top ∷ below)) order looked_at w.marked unseen (looked_inside within);
          apart = (not_open, w.apart);
          linked = (
            λ x h. absurd h,
            λ x h. absurd h,
            (
              λ x h. ⊎_elim (λ (l : Has (take top.next (imports_of graph top.importer)) x). inr (w.linked.0 x l)) (λ (e : looked_at ≡ x). inl e) (taken x h),
              λ x h. ⊎_elim (λ (e : looked_at ≡ x). has_same (imports_of graph top.importer) looked_at x e is_import) (λ (absent : ⊥). absurd absent) h,
              w.linked.2,
            ),
          );
          within = λ x h. ⊎_elim (λ (e : looked_at ≡ x). subst (λ y. y < length graph) e (within top.importer looked_at is_import)) (λ (r : Has (open_in (top ∷ below)) x). w.within x r) h;
        }

        pub open_leads : (last : List ℕ) → LeadsTo graph (opened ∷ moved_on top ∷ below) order last → LeadsTo graph (top ∷ below) order last
        open_leads last leads =
            let own = concat leads.0 ++ looked_at ∷ [] in
            let after = leads.2 in
            let rest = concat after.0 ++ top.importer ∷ [] in
            let closure = firsts own in (
              closure ∷ after.0,
              subst (λ ms. AreClosures graph ms (closure ∷ after.0)) (sym dropped)
                  (next looked_at (drop (top.next + 1) (imports_of graph top.importer)) closure after.0 (closes looked_at closure leads.0 leads.1 refl) after.1),
              subst (λ o. LeadsTo graph below o last) (
                  firsts_left (order ++ own) rest
                  ∙ ap firsts (append_assoc order own rest)
                  ∙ sym (firsts_right order (own ++ rest))
                  ∙ ap (λ l. firsts (order ++ l)) (sym (firsts_left own rest))
                  ∙ firsts_right order (closure ++ rest)
                  ∙ ap (λ l. firsts (order ++ l)) (sym (append_assoc closure (concat after.0) (top.importer ∷ [])))
                  ) after.2,
            )

        pub open_fewer : worth_of graph (set marks looked_at Open) + steps_of graph (opened ∷ moved_on top ∷ below) < worth_of graph marks + steps_of graph (top ∷ below)
        open_fewer =
            let is = ap (λ k. worth k (length (imports_of graph looked_at))) unseen in
            let all = worth_set graph marks looked_at Open (looked_inside within) w.long in
            omega (arith, is, all, more)

  pub walk_of : (walk : Walk) (marks : List Mark) (frames : List Frame) (order : List ℕ) → walk.marks.items ≡ marks → reverse walk.frames.items ≡ frames → walk.order.items ≡ order
      → IsWalking graph marks frames order → IsWalk graph walk
  walk_of walk marks frames order is_marks is_frames is_order walking =
      subst (λ m. IsWalking graph m (reverse walk.frames.items) walk.order.items) (sym is_marks)
      (subst (λ f. IsWalking graph marks f walk.order.items) (sym is_frames) (subst (IsWalking graph marks frames) (sym is_order) walking))

  -- a step by what it leaves
  pub step_of : (marks : List Mark) (frames : List Frame) (order : List ℕ) (walk : Walk) (new_marks : List Mark) (new_frames : List Frame) (new_order : List ℕ)
      → walk.marks.items ≡ new_marks → reverse walk.frames.items ≡ new_frames → walk.order.items ≡ new_order
      → IsWalking graph new_marks new_frames new_order
      → ((last : List ℕ) → LeadsTo graph new_frames new_order last → LeadsTo graph frames order last)
      → worth_of graph new_marks + steps_of graph new_frames < worth_of graph marks + steps_of graph frames
      → ((x : ℕ) → Has (open_in new_frames) x → IsNext graph (open_in frames) x)
      → IsStep graph marks frames order walk
  step_of marks frames order walk new_marks new_frames new_order is_marks is_frames is_order walking leads fewer opened = record {
    walking = walk_of walk new_marks new_frames new_order is_marks is_frames is_order walking;
    leads = λ last on. leads last (subst (λ o. LeadsTo graph new_frames o last) is_order (subst (λ f. LeadsTo graph f walk.order.items last) is_frames on));
    fewer =
        subst (λ m. worth_of graph m + steps_of graph (reverse walk.frames.items) < worth_of graph marks + steps_of graph frames) (sym is_marks)
        (subst (λ f. worth_of graph new_marks + steps_of graph f < worth_of graph marks + steps_of graph frames) (sym is_frames) fewer);
    opened = λ x h. opened x (subst (λ f. Has (open_in f) x) is_frames h);
  }

  module _ (marks : List Mark) (top : Frame) (frames : List Frame) (order : List ℕ) (w : IsWalking graph marks (top ∷ reverse frames) order) (walk : Walk) where
    pub close_step : length (imports_of graph top.importer) ≤ top.next → walk.marks.items ≡ set marks top.importer Done → walk.frames.items ≡ frames → walk.order.items ≡ order ++ top.importer ∷ []
        → IsStep graph marks (top ∷ reverse frames) order walk
    close_step over is_marks is_frames is_order =
        let below = reverse frames in
        step_of marks (top ∷ below) order walk (set marks top.importer Done) below (order ++ top.importer ∷ []) is_marks (ap reverse is_frames) is_order
        (close_walking marks top below order w over) (close_leads marks top below order w over) (close_fewer marks top below order w over) (λ y h. inl (inr h))

    pub done_step : (x : ℕ) → top.next < length (imports_of graph top.importer) → x ≡ get_or (imports_of graph top.importer) top.next 0 → mark_of marks x ≡ Done
        → walk.marks.items ≡ marks → walk.frames.items ≡ frames ++ moved_on top ∷ [] → walk.order.items ≡ order → IsStep graph marks (top ∷ reverse frames) order walk
    done_step x more looked mark is_marks is_frames is_order =
        let below = reverse frames in
        let done : mark_of marks (get_or (imports_of graph top.importer) top.next 0) ≡ Done = subst (λ y. mark_of marks y ≡ Done) looked mark in
        step_of marks (top ∷ below) order walk marks (moved_on top ∷ below) order is_marks (ap reverse is_frames ∙ reverse-append frames (moved_on top ∷ [])) is_order
        (done_walking marks top below order w more done) (done_leads marks top below order w more done) (done_fewer marks top below order w more done) (λ y h. inl h)

    pub open_step : (x : ℕ) → AreWithin graph → top.next < length (imports_of graph top.importer) → x ≡ get_or (imports_of graph top.importer) top.next 0 → mark_of marks x ≡ Unseen
        → walk.marks.items ≡ set marks x Open → walk.frames.items ≡ (frames ++ moved_on top ∷ []) ++ record { importer = x; next = 0 } ∷ [] → walk.order.items ≡ order
        → IsStep graph marks (top ∷ reverse frames) order walk
    open_step x within more looked mark is_marks is_frames is_order =
        let below = reverse frames in
        let import = get_or (imports_of graph top.importer) top.next 0 in
        let unseen : mark_of marks import ≡ Unseen = subst (λ y. mark_of marks y ≡ Unseen) looked mark in
        let first : Frame = record { importer = x; next = 0 } in
        let turned : reverse walk.frames.items ≡ first ∷ moved_on top ∷ below =
        ap reverse is_frames ∙ reverse-append (frames ++ moved_on top ∷ []) (first ∷ []) ∙ ap (λ l. first ∷ l) (reverse-append frames (moved_on top ∷ [])) in
        let entry : ℕ → List Frame = λ y. record { importer = y; next = 0 } ∷ moved_on top ∷ below in
        step_of marks (top ∷ below) order walk (set marks import Open) (entry import) order (is_marks ∙ ap (λ y. set marks y Open) looked) (turned ∙ ap entry looked) is_order
        (open_walking marks top below order w more unseen within) (open_leads marks top below order w more unseen within) (open_fewer marks top below order w more unseen within)
        (λ y h.
        ⊎_elim
        (λ (e : import ≡ y). inr (top.importer, inl refl, has_same (imports_of graph top.importer) import y e (is_import marks top below order w more)))
        (λ (r : Has (open_in (top ∷ below)) y). inl r)
        h)

  -- ---- a visit

  -- modules that a root leads to
  abbrev pub AreReached : ℕ → List ℕ → Type 0
  AreReached root ms = (x : ℕ) → Has ms x → (x ≡ root) ⊎ Reaches graph root x

  -- what is imported by what is reached is reached
  pub reached_next : (root : ℕ) (ms : List ℕ) (x : ℕ) → AreReached root ms → IsNext graph ms x → (x ≡ root) ⊎ Reaches graph root x
  reached_next root ms x all (inl h) = all x h
  reached_next root ms x all (inr n) =
      inr
      (⊎_elim
      (λ (e : n.0 ≡ root). by_one root x (subst (λ m. Has (imports_of graph m) x) e n.2))
      (λ (r : Reaches graph root n.0). one_more graph root n.0 x r n.2)
      (all n.0 n.1))

  pub cycle_from : (root : ℕ) (ms : List ℕ) → AreReached root ms → LeadsToCycle graph ms → LeadsToCycle graph (root ∷ [])
  cycle_from root ms all c = record {
    root = root;
    is_root = inl refl;
    at = c.at;
    leads =
        ⊎_elim
        (λ (e : c.at ≡ c.root). subst (λ x. (x ≡ root) ⊎ Reaches graph root x) (sym e) (all c.root c.is_root))
        (λ (r : Reaches graph c.root c.at).
        inr (⊎_elim (λ (e : c.root ≡ root). subst (λ x. Reaches graph x c.at) e r) (λ (f : Reaches graph root c.root). and_on graph root c.root c.at f r) (all c.root c.is_root)))
        c.leads;
    cycle = c.cycle;
  }

  module _ (marks : List Mark) (order : List ℕ) (root : ℕ) (w : IsWalking graph marks [] order) (within : root < length graph) where
    pub root_inside : root < length marks
    root_inside = omega (arith, within, w.long)

    -- a root that was seen stands in the order with its closure
    pub seen_visited : (mark_of marks root ≡ Unseen → ⊥) → IsVisited graph root order order
    seen_visited seen =
        let held = w.held root (⊎_elim (λ (o : mark_of marks root ≡ Open). absurd (w.marked.in_frames root o)) (λ (d : mark_of marks root ≡ Done). w.marked.in_order root d) (mark_cases (mark_of marks root) seen)) in
        record {
          closure = held.closure;
          is = held.is;
          added =
              sym w.once ∙ ap firsts (sym (append-nil order)) ∙ sym (firsts_within order held.closure [] held.held) ∙ ap (λ l. firsts (order ++ l)) (append-nil held.closure);
        }

    pub root_walking : mark_of marks root ≡ Unseen → IsWalking graph (set marks root Open) (record { importer = root; next = 0 } ∷ []) order
    root_walking unseen = record {
      long = length-set marks root Open ∙ w.long;
      once = w.once;
      held = w.held;
      marked = open_marks marks [] order root w.marked unseen root_inside;
      apart = (λ h. h, tt);
      linked = (λ x h. absurd h, λ x h. absurd h, tt);
      within = λ x h. ⊎_elim (λ (e : root ≡ x). subst (λ y. y < length graph) e within) (λ (none : ⊥). absurd none) h;
    }

  pub end_visited : (root : ℕ) (old new : List ℕ) → LeadsTo graph (record { importer = root; next = 0 } ∷ []) old new → IsVisited graph root old new
  end_visited root old new leads =
      let own = concat leads.0 ++ root ∷ [] in
      record {
        closure = firsts own;
        is = closes root (firsts own) leads.0 leads.1 refl;
        added = sym leads.2 ∙ sym (firsts_right old own);
      }

-- the frames with the top one taken off
pub popped : (frames rest : List Frame) (top : Frame) → frames ≡ rest ++ top ∷ [] → reverse frames ≡ top ∷ reverse rest
popped frames rest top is = ap reverse is ∙ reverse-append rest (top ∷ [])
