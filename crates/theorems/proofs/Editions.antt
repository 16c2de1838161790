-- The part that changed between two editions: the equal runs are the longest ones, and the part is what they leave of both texts (RULES Z3, Z4). Assumes nothing.
use mathlib.Core.Path.{◌≡◌, refl, sym, ap, ap₂, subst, ◌∙◌}
use mathlib.Core.Bool.{Bool, true, false, not, false≢true}
use mathlib.Core.List.{List, [], ◌∷◌, ◌++◌, reverse, reverse-append, reverse-reverse}
use Prim.Native.Nat.{ℕ, zero, suc, ◌+◌, ◌-◌, ◌*◌, ◌≤◌}
use native.Mathlib.Omega.{arith}
use lib.Dec.{eqb}
use lib.ListN.{length, get_or, take, drop, replicate, take-append-drop, length-drop, length-reverse}
use lib.Seq.{take_at, drop-drop, drop-length}
use borrow.Author.Tests.{eq-eqb, eqb-true, eqb-false}
use Rattle.classes.specs.Choice.{pick, both}
use Rattle.classes.proofs.ChoiceLaws.{true-left, true-right}
use Rattle.equals.specs.Same.{same}
use Rattle.equals.proofs.SameLaws.{same-is, is_same}
use Rattle.trim.specs.Trim.{part_of}
use Rattle.events.specs.Events.{width}
use Rattle.events.specs.Pack.{is_stale, all_of, live_in}
use Rattle.events.specs.declared.Event.{Event}
use Rattle.events.specs.Names.{largest}
use Rattle.walk.specs.declared.Limits.{Limits}
use Rattle.tops.specs.Tops.{starts_of, first_or, blocks_of}
use Rattle.tops.proofs.PlaceLaws.{starts-live}
use Rattle.editions.specs.Editions.{fault, stray, same_event, again_of, fault_of, against_of, front_of, back_of, refused_in, part_in, place_behind, front_run, back_run, between_of, between, changed_of, change_of}
use Rattle.editions.specs.declared.Which.{Which}
use Rattle.editions.specs.declared.Which.TheVariants.{Older, Newer}
use Rattle.editions.specs.declared.Fault.{Fault}
use Rattle.editions.specs.declared.Change.{Change}
use Rattle.editions.proofs.RunLaws.{blocks-length, front-on, front-stop, front-le}
use Rattle.editions.proofs.AgainstLaws.{against-is}
use Rattle.theorems.specs.Covers.{Rising, Covers, joined}
use Rattle.theorems.specs.Changed.{Parted, Edition, Runs, Told, Compared}
use Rattle.theorems.proofs.Proper.{of-pick}
use Rattle.theorems.proofs.TopCovers.{parse-covers, places-on, places-end, places-rise, covers-before, covers-behind, covers-between}
use Rattle.theorems.proofs.NeverLaws.{never-seven}

-- ---- the tests of an answer
older≢newer : Older ≡ Newer → ⊥
older≢newer e = subst (λ (w : Which). is_older w) e tt
  where
    is_older : Which → Type 0
    is_older Older = Unit {0}
    is_older Newer = ⊥

not-zero : (n : ℕ) → not (eqb n 0) ≡ true → n ≡ 0 → ⊥
not-zero n t z = false≢true (sym (ap not (eq-eqb n 0 z)) ∙ t)

zero_is : (n : ℕ) → not (eqb n 0) ≡ false → n ≡ 0
zero_is n t = eqb-true n 0 (by-case (eqb n 0) t)
  where
    by-case : (b : Bool) → not b ≡ false → b ≡ true
    by-case true t = refl
    by-case false t = sym t

of-which : {P : Type 0} (w : Which) → (w ≡ Older → P) → (w ≡ Newer → P) → P
of-which Older f g = f refl
of-which Newer f g = g refl

abbrev Blocks : Type 0
Blocks = List (List ℕ)

-- ---- the run in front is the longest
front_same : (xs ys : Blocks) → take (front_of xs ys) xs ≡ take (front_of xs ys) ys
unfolding front_of
front_same [] ys = refl
front_same (x ∷ xs) [] = refl
front_same (x ∷ xs) (y ∷ ys) = by-case (same x y) refl (front_same xs ys)
  where
    by-case : (b : Bool) → same x y ≡ b → take (front_of xs ys) xs ≡ take (front_of xs ys) ys
        → take (front_of (x ∷ xs) (y ∷ ys)) (x ∷ xs) ≡ take (front_of (x ∷ xs) (y ∷ ys)) (y ∷ ys)
    by-case true e p = rw (front-on x y xs ys e) (ap₂ (λ (z : List ℕ) (zs : Blocks). z ∷ zs) (same-is x y e) p)
    by-case false e p = rw (front-stop x y xs ys e)

front-most : (xs ys : Blocks) (k : ℕ) → k ≤ length xs → k ≤ length ys → take k xs ≡ take k ys → k ≤ front_of xs ys
front-most xs ys zero h i e = omega arith
front-most [] ys (suc k) h i e = absurd (omega (arith, h))
front-most (x ∷ xs) [] (suc k) h i e = absurd (omega (arith, i))
front-most (x ∷ xs) (y ∷ ys) (suc k) h i e =
    let p : x ≡ y = ap (λ (l : Blocks). get_or l 0 []) e in
    let s = ap (same x) (sym p) ∙ is_same x in
    omega (arith, front-on x y xs ys s, front-most xs ys k (omega (arith, h)) (omega (arith, i)) (ap (drop 1) e))

pub front-longest : (xs ys : List (List ℕ)) → (take (front_of xs ys) xs ≡ take (front_of xs ys) ys)
    × ((k : ℕ) → k ≤ length xs → k ≤ length ys → take k xs ≡ take k ys → k ≤ front_of xs ys)
front-longest xs ys = (front_same xs ys, front-most xs ys)

-- ---- and so is the run at the back
reverse-take : (xs : Blocks) (k : ℕ) → k ≤ length xs → take k (reverse xs) ≡ reverse (drop (length xs - k) xs)
reverse-take xs k h =
    let m = length xs - k in
    ap (λ (l : Blocks). take k (reverse l)) (sym (take-append-drop m xs)) ∙ ap (take k) (reverse-append (take m xs) (drop m xs))
    ∙ take_at (reverse (drop m xs)) (reverse (take m xs)) k (omega (arith, h, length-reverse (drop m xs), length-drop m xs))

reverse-back : (xs ys : Blocks) → reverse xs ≡ reverse ys → xs ≡ ys
reverse-back xs ys e = sym (reverse-reverse xs) ∙ ap (λ (l : Blocks). reverse l) e ∙ reverse-reverse ys

pub back-longest : (xs ys : List (List ℕ)) → let n = back_of xs ys in (n ≤ length xs) × (n ≤ length ys) × (drop (length xs - n) xs ≡ drop (length ys - n) ys)
    × ((k : ℕ) → k ≤ length xs → k ≤ length ys → drop (length xs - k) xs ≡ drop (length ys - k) ys → k ≤ n)
unfolding back_of
back-longest xs ys =
    let n = front_of (reverse xs) (reverse ys) in
    let a = length-reverse xs in
    let b = length-reverse ys in
    let l = front-le (reverse xs) (reverse ys) in
    let f = front-longest (reverse xs) (reverse ys) in
    let h : n ≤ length xs = omega (arith, l.0, a) in
    let i : n ≤ length ys = omega (arith, l.1, b) in (
      h,
      i,
      reverse-back _ _ (sym (reverse-take xs n h) ∙ f.0 ∙ reverse-take ys n i),
      λ k p q e. f.1 k (omega (arith, p, a)) (omega (arith, q, b)) (reverse-take xs k p ∙ ap (λ (l : Blocks). reverse l) e ∙ sym (reverse-take ys k q)),
    )

-- ---- a text's blocks without the first and the last ones
parted : (text ss : List ℕ) (front back : ℕ) → Covers (length text) ss → front + back ≤ length ss
    → Parted text ss front back (place_behind text ss front) (place_behind text ss (length ss - back))
unfolding part_of
parted text ss front back c h =
    let s = place_behind text ss front in
    let e = place_behind text ss (length ss - back) in
    let o = places-on (length text) front (length ss - back) ss (omega arith) c.rising in
    let z : front + (length ss - front - back) ≡ length ss - back = omega arith in
    let w : s + (e - s) ≡ e = omega (arith, o) in
    record {
      before = sym (covers-before text ss c front);
      part = sym (covers-between text ss c front (length ss - front - back) ∙ ap (λ (k : ℕ). part_of text s (first_or (length text) (drop k ss))) z);
      behind = sym (covers-behind text ss c (length ss - back));
      whole = ap (λ (l : List ℕ). take s text ++ (take (e - s) (drop s text) ++ l)) (ap (λ (k : ℕ). drop k text) (sym w) ∙ sym (drop-drop (e - s) s text))
          ∙ ap (λ (l : List ℕ). take s text ++ l) (take-append-drop (e - s) (drop s text)) ∙ take-append-drop s text;
      order = o;
      within = places-end (length text) (length ss - back) ss c.rising;
    }

-- where no blocks are between, those are the text
outer : (text ss : List ℕ) (front back start end : ℕ) → Parted text ss front back start end → length ss - front - back ≡ 0
    → joined (take front (blocks_of text ss)) ++ joined (drop (length ss - back) (blocks_of text ss)) ≡ text
unfolding joined
outer text ss front back start end p z =
    let none : part_of text start end ≡ [] = p.part ∙ ap (λ (k : ℕ). joined (take k (drop front (blocks_of text ss)))) z in
    ap₂ (λ (a b : List ℕ). a ++ b) (sym p.before) (sym p.behind) ∙ ap (λ (l : List ℕ). take start text ++ (l ++ drop end text)) (sym none) ∙ p.whole

-- blocks are not empty
place_same : (end : ℕ) (ss : List ℕ) (front back : ℕ) → Rising end ss → first_or end (drop front ss) ≡ first_or end (drop (length ss - back) ss) → length ss - front - back ≡ 0
place_same end ss front back r e = by-case (length ss - front - back) refl
  where
    by-case : (n : ℕ) → length ss - front - back ≡ n → n ≡ 0
    by-case zero d = refl
    by-case (suc n) d = absurd (omega (arith, e, places-rise end front ss (omega (arith, d)) r, places-on end (suc front) (length ss - back) ss (omega (arith, d)) r))

-- ---- the two runs
module _ (older newer os ns : List ℕ) where
  abbrev xs : Blocks
  xs = blocks_of older os

  abbrev ys : Blocks
  ys = blocks_of newer ns

  abbrev F : ℕ
  F = front_run older newer os ns

  abbrev B : ℕ
  B = back_run older newer os ns

  equal-runs : (take F xs ≡ take F ys) × (drop (length os - B) xs ≡ drop (length ns - B) ys) × (F + B ≤ length os) × (F + B ≤ length ns)
  unfolding back_run front_run
  equal-runs =
      let f = front-le xs ys in
      let b = back-longest (drop F xs) (drop F ys) in
      let m = length-drop F xs in
      let n = length-drop F ys in
      let i = blocks-length older os in
      let j = blocks-length newer ns in
      let p : F + (length (drop F xs) - B) ≡ length os - B = omega (arith, f.0, b.0, m, i) in
      let q : F + (length (drop F ys) - B) ≡ length ns - B = omega (arith, f.1, b.1, n, j) in (
        (front-longest xs ys).0,
        ap (λ (k : ℕ). drop k xs) (sym p) ∙ sym (drop-drop (length (drop F xs) - B) F xs) ∙ b.2 ∙ drop-drop (length (drop F ys) - B) F ys ∙ ap (λ (k : ℕ). drop k ys) q,
        omega (arith, f.0, b.0, m, i),
        omega (arith, f.1, b.1, n, j),
      )

  longest-front : (k : ℕ) → k ≤ length os → k ≤ length ns → take k xs ≡ take k ys → k ≤ F
  unfolding front_run
  longest-front k h g = (front-longest xs ys).1 k (omega (arith, h, blocks-length older os)) (omega (arith, g, blocks-length newer ns))

  longest-back : (k : ℕ) → F + k ≤ length os → F + k ≤ length ns → drop (length os - k) xs ≡ drop (length ns - k) ys → k ≤ B
  unfolding back_run
  longest-back k h g e =
      let m = length-drop F xs in
      let n = length-drop F ys in
      let i = blocks-length older os in
      let j = blocks-length newer ns in
      let p : F + (length (drop F xs) - k) ≡ length os - k = omega (arith, h, m, i) in
      let q : F + (length (drop F ys) - k) ≡ length ns - k = omega (arith, g, n, j) in
      (back-longest (drop F xs) (drop F ys)).3 k (omega (arith, h, m, i)) (omega (arith, g, n, j))
      (drop-drop (length (drop F xs) - k) F xs ∙ ap (λ (l : ℕ). drop l xs) p ∙ e ∙ ap (λ (l : ℕ). drop l ys) (sym q) ∙ sym (drop-drop (length (drop F ys) - k) F ys))

  runs-are : Covers (length older) os → Covers (length newer) ns → Runs older newer os ns
  runs-are c d =
      let r = equal-runs in
      record { front = r.0; back = r.1; front-most = longest-front; back-most = longest-back; apart = (r.2, r.3); older-parted = parted older os F B c r.2; newer-parted = parted newer ns F B d r.3 }

  -- the newer text is the older one without its part, where no block is new
  taken_out : Runs older newer os ns → between_of older newer os ns ns ≡ 0
      → newer ≡ take (place_behind older os F) older ++ drop (place_behind older os (length os - B)) older
  taken_out r z =
      sym (outer newer ns F B _ _ r.newer-parted z) ∙ ap₂ (λ (u v : Blocks). joined u ++ joined v) (sym r.front) (sym r.back)
      ∙ ap₂ (λ (u v : List ℕ). u ++ v) (sym r.older-parted.before) (sym r.older-parted.behind)

  -- without blocks between the runs they are equal
  all-outer : Runs older newer os ns → between_of older newer os ns os ≡ 0 → between_of older newer os ns ns ≡ 0 → older ≡ newer
  all-outer r o n =
      sym (outer older os F B _ _ r.older-parted o) ∙ ap₂ (λ (u v : Blocks). joined u ++ joined v) r.front r.back ∙ outer newer ns F B _ _ r.newer-parted n

  -- of equal blocks, all are in the run in front
  all_alike : xs ≡ ys → (F ≡ length ns) × (length ns - B ≡ length ns) × (between_of older newer os ns os ≡ 0)
  unfolding front_run
  all_alike e =
      let i = blocks-length older os in
      let j = blocks-length newer ns in
      let k = ap (λ (l : Blocks). length l) e in
      let f = (front-longest xs ys).1 (length ys) (omega (arith, k)) (omega arith) (ap (take (length ys)) e) in
      let h = equal-runs.3 in
      (omega (arith, f, h, j), omega (arith, f, h, j), omega (arith, f, i, j, k))

  -- ---- the part between them
  abbrev removed : Bool
  removed = both (eqb (between_of older newer os ns ns) 0) (not (eqb (between_of older newer os ns os) 0))

  of-changed : (P : Change → Type 0) → (removed ≡ true → P (between older newer os ns Older older os)) → (removed ≡ false → P (between older newer os ns Newer newer ns))
      → P (changed_of older newer os ns)
  unfolding changed_of
  of-changed P = of-pick P removed (between older newer os ns Older older os) (between older newer os ns Newer newer ns)

  told : Told older newer os ns (changed_of older newer os ns)
  told =
      let o = between_of older newer os ns os in
      let n = between_of older newer os ns ns in
      of-changed (Told older newer os ns)
      (λ t. record {
        older-told = λ w. (refl, eqb-true n 0 (true-left (eqb n 0) (not (eqb o 0)) t), not-zero o (true-right (eqb n 0) (not (eqb o 0)) t));
        newer-told = λ w. absurd (older≢newer w);
      })
      (λ t. record {
        older-told = λ w. absurd (older≢newer (sym w));
        newer-told = λ w. (refl, λ z. zero_is o (ap (λ (b : Bool). both b (not (eqb o 0))) (sym (eq-eqb n 0 z)) ∙ t));
      })

-- ---- an edition in which nothing is wrong
abbrev Never : Fault → Type 0
Never f = f.number ≡ 7 → ⊥

against-never : (i : ℕ) (xs ys : List Event) → (against_of i xs ys).number ≡ 7 → ⊥
unfolding against_of
against-never i [] [] z = omega (arith, z)
against-never i [] (y ∷ ys) z = omega (arith, z)
against-never i (x ∷ xs) [] z = of-pick Never (is_stale x) _ (stray i) (λ t. against-never (i + 1) xs []) (λ t z. omega (arith, z)) z
against-never i (x ∷ xs) (y ∷ ys) z =
    of-pick Never (is_stale x) _ (pick (same_event x y) (against_of (i + 1) xs ys) (stray i)) (λ t. against-never (i + 1) xs (y ∷ ys))
    (λ t. of-pick Never (same_event x y) _ (stray i) (λ t. against-never (i + 1) xs ys) (λ t z. omega (arith, z))) z

-- the words of the events of a text's parse
abbrev parsed_by : Limits → ℕ → ℕ → List ℕ → List ℕ
parsed_by lim l e text = let p = again_of largest lim l e text in take (width * p.answer.count) p.events

module _ (lim : Limits) (l e : ℕ) (text given : List ℕ) where
  abbrev parsed : List ℕ
  parsed = parsed_by lim l e text

  starts-parsed : live_in given ≡ live_in parsed → starts_of text (all_of given) ≡ starts_of text (all_of parsed)
  starts-parsed h = sym (starts-live text 0 (all_of given)) ∙ ap (starts_of text) h ∙ starts-live text 0 (all_of parsed)

  edition-is : (fault_of largest lim l e text given).number ≡ 0 → Edition lim l e text given
  unfolding fault_of
  edition-is =
      let p = again_of largest lim l e text in
      of-pick (λ (f : Fault). f.number ≡ 0 → Edition lim l e text given) (eqb p.answer.number 0) (against_of 0 (all_of given) (live_in parsed))
      (fault p.answer.number p.answer.position)
      (λ t z.
      let a = eqb-true p.answer.number 0 t in
      let h = against-is 0 (all_of given) (live_in parsed) z in
      record {
        accepted = a;
        events = h;
        covers = subst (Covers (length text)) (sym (starts-parsed h)) (parse-covers lim text (replicate l 0) (replicate e 0) a);
      })
      (λ t z. absurd (eqb-false p.answer.number 0 t z))

  fault-never : (fault_of largest lim l e text given).number ≡ 7 → ⊥
  unfolding fault_of
  fault-never =
      let p = again_of largest lim l e text in
      of-pick Never (eqb p.answer.number 0) (against_of 0 (all_of given) (live_in parsed)) (fault p.answer.number p.answer.position)
      (λ t. against-never 0 (all_of given) (live_in parsed)) (λ t. never-seven lim text (replicate l 0) (replicate e 0))

-- ---- the whole answer
module _ (lim : Limits) (l e : ℕ) (older og newer ng : List ℕ) where
  abbrev os : List ℕ
  os = starts_of older (all_of og)

  abbrev ns : List ℕ
  ns = starts_of newer (all_of ng)

  abbrev answer : Change
  answer = change_of largest lim l e older og newer ng

  -- what holds of the refusals of both texts and of the part between the runs holds of every answer
  of-change : (P : Change → Type 0) → let a = fault_of largest lim l e older og in let b = fault_of largest lim l e newer ng in
      ((a.number ≡ 0 → ⊥) → P (refused_in Older a)) → ((b.number ≡ 0 → ⊥) → P (refused_in Newer b)) → (a.number ≡ 0 → b.number ≡ 0 → P (changed_of older newer os ns)) → P answer
  unfolding change_of
  of-change P p q r =
      let a = fault_of largest lim l e older og in
      let b = fault_of largest lim l e newer ng in
      of-pick P (not (eqb a.number 0)) (refused_in Older a) (pick (not (eqb b.number 0)) (refused_in Newer b) (changed_of older newer os ns))
      (λ t. p (not-zero a.number t))
      (λ t. of-pick P (not (eqb b.number 0)) (refused_in Newer b) (changed_of older newer os ns) (λ u. q (not-zero b.number u)) (λ u. r (zero_is a.number t) (zero_is b.number u)))

  pub compared : answer.number ≡ 0 → Compared lim l e older og newer ng answer
  compared =
      of-change (λ c. c.number ≡ 0 → Compared lim l e older og newer ng c) (λ h z. absurd (h z)) (λ h z. absurd (h z))
      (λ a b z.
      let o = edition-is lim l e older og a in
      let n = edition-is lim l e newer ng b in
      record { older-is = o; newer-is = n; runs = runs-are older newer os ns o.covers n.covers; told = told older newer os ns })

  pub change-never-seven : answer.number ≡ 7 → ⊥
  change-never-seven =
      of-change (λ c. c.number ≡ 7 → ⊥) (λ h. fault-never lim l e older og) (λ h. fault-never lim l e newer ng)
      (λ a b. of-changed older newer os ns (λ c. c.number ≡ 7 → ⊥) (λ t z. omega (arith, z)) (λ t z. omega (arith, z)))

  -- ---- of an answer that is no refusal
  module _ (z : answer.number ≡ 0) where
    abbrev seen : Compared lim l e older og newer ng answer
    seen = compared z

    pub same-editions : older ≡ newer → answer ≡ part_in Newer (length newer) (length newer)
    same-editions p =
        let u = starts-parsed lim l e older og seen.older-is.events in
        let v = starts-parsed lim l e newer ng seen.newer-is.events in
        let (f, b, o) = all_alike older newer os ns (ap₂ blocks_of p (u ∙ ap (λ (t : List ℕ). starts_of t (all_of (parsed_by lim l e t))) p ∙ sym v)) in
        of-which answer.which
        (λ w. absurd ((seen.told.older-told w).2 o))
        (λ w. (seen.told.newer-told w).0 ∙ ap₂ (λ (i j : ℕ). part_in Newer (place_behind newer ns i) (place_behind newer ns j)) f b
        ∙ ap (λ (k : List ℕ). part_in Newer (first_or (length newer) k) (first_or (length newer) k)) (drop-length ns))

    -- the newer text is the older one without the part
    pub removed-only : answer.which ≡ Older → newer ≡ take answer.start older ++ drop answer.end older
    removed-only w =
        let t = seen.told.older-told w in
        taken_out older newer os ns seen.runs t.1 ∙ ap (λ (c : Change). take c.start older ++ drop c.end older) (sym t.0)

    -- an empty part has no blocks
    none_between : (w : Which) (text ss : List ℕ) → Covers (length text) ss → answer ≡ between older newer os ns w text ss → answer.start ≡ answer.end
        → between_of older newer os ns ss ≡ 0
    none_between w text ss c t p =
        place_same (length text) ss (front_run older newer os ns) (back_run older newer os ns) c.rising (ap (λ (c : Change). c.start) (sym t) ∙ p ∙ ap (λ (c : Change). c.end) t)

    pub unchanged-same : answer.start ≡ answer.end → older ≡ newer
    unchanged-same p =
        of-which answer.which
        (λ w.
        let t = seen.told.older-told w in
        absurd (t.2 (none_between Older older os seen.older-is.covers t.0 p)))
        (λ w.
        let t = seen.told.newer-told w in
        let n = none_between Newer newer ns seen.newer-is.covers t.0 p in
        all-outer older newer os ns seen.runs (t.1 n) n)
