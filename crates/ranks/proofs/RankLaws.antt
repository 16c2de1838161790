-- What is written at a place is its rank by the definition: the definition place by place, and the loop from the back. Assumes nothing.
use Prim.Native.Nat.{ℕ, zero, suc, ◌+◌, ◌-◌, ◌*◌, ◌≤◌, ◌<◌}
use mathlib.Core.Path.{◌≡◌, refl, sym, ap, ◌∙◌, subst}
use mathlib.Core.Bool.{Bool, true, false, not}
use mathlib.Core.Logic.{⊎_elim}
use mathlib.Core.List.{List, [], ◌∷◌, ◌++◌, append-nil}
use native.Mathlib.Omega.{arith}
use native.Mathlib.Nat.{add-zero}
use lib.Dec.{eqb, ltb}
use lib.ListN.{length, get_or, take, drop, set, length-set, length-drop}
use lib.Seq.{append_snoc, length-take-le, get_or-take, get_or-drop, drop-drop, get_or-set_same, get_or-set_other, ext_get_or}
use borrow.Author.Tests.{eqb-true, eqb-false, ltb-true, ltb-false, lt-ltb}
use Rattle.classes.specs.Choice.{pick, either}
use Rattle.sets.specs.Layout.{Listed, element_in, listed}
use Rattle.keys.specs.Keys.{is_keyed}
use Rattle.ranks.specs.Ranks.{alike, seen, last_place, rank_of, ranks_from, ranks_of}
use Rattle.ranks.specs.Sorting.{element_at, keyed_at, place_le, like_at, joined, last_by, worth, Sorted}
use Rattle.ranks.proofs.OrderLaws.{ordered}
use Rattle.ranks.proofs.PassLaws.{Last, apart, last_step, unseen, seen-prior}

-- ---- the definition, by the elements that are alike
abbrev none : Listed
none = element_in []

module _ (bytes : List ℕ) (x : Listed) where
  seen_none : (ys : List Listed) → ((k : ℕ) → k < length ys → alike bytes x (get_or ys k none) ≡ false) → seen bytes x ys ≡ false
  unfolding seen
  seen_none [] f = refl
  seen_none (y ∷ ys) f = rw (f 0 (omega arith)) (seen_none ys (λ k h. f (suc k) (omega (arith, h))))

  seen-some : (ys : List Listed) (k : ℕ) → k < length ys → alike bytes x (get_or ys k none) ≡ true → seen bytes x ys ≡ true
  unfolding seen
  seen-some [] k h e = absurd (omega (arith, h))
  seen-some (y ∷ ys) zero h e = rw e
  seen-some (y ∷ ys) (suc k) h e = by-test (seen-some ys k (omega (arith, h)) e) (alike bytes x y)
    where
      by-test : seen bytes x ys ≡ true → (t : Bool) → either t (seen bytes x ys) ≡ true
      by-test more true = refl
      by-test more false = more

  place_none : (j d : ℕ) (ys : List Listed) → ((k : ℕ) → k < length ys → alike bytes x (get_or ys k none) ≡ false) → last_place bytes x j d ys ≡ d
  unfolding last_place
  place_none j d [] f = refl
  place_none j d (y ∷ ys) f = rw (f 0 (omega arith)) (place_none (suc j) d ys (λ k h. f (suc k) (omega (arith, h))))

  place-some : (j d : ℕ) (ys : List Listed) (k : ℕ) → k < length ys → alike bytes x (get_or ys k none) ≡ true
      → ((i : ℕ) → k < i → i < length ys → alike bytes x (get_or ys i none) ≡ false) → last_place bytes x j d ys ≡ j + k
  unfolding last_place
  place-some j d [] k h e f = absurd (omega (arith, h))
  place-some j d (y ∷ ys) zero h e f = rw e (place_none (suc j) j ys (λ i g. f (suc i) (omega arith) (omega (arith, g))) ∙ sym (add-zero j))
  place-some j d (y ∷ ys) (suc k) h e f =
      let w = place-some (suc j) (pick (alike bytes x y) j d) ys k (omega (arith, h)) e (λ i g l. f (suc i) (omega (arith, g)) (omega (arith, l))) in
      omega (arith, w)

ranks-length : (bytes : List ℕ) (before xs : List Listed) → length (ranks_from bytes before xs) ≡ length xs
unfolding ranks_from
ranks-length bytes before [] = refl
ranks-length bytes before (x ∷ xs) = ap suc (ranks-length bytes (before ++ x ∷ []) xs)

ranks-at : (bytes : List ℕ) (before xs : List Listed) (p : ℕ) → p < length xs
    → get_or (ranks_from bytes before xs) p 0 ≡ rank_of bytes (before ++ take p xs) (get_or xs p none) (drop (suc p) xs)
unfolding ranks_from
ranks-at bytes before [] p h = absurd (omega (arith, h))
ranks-at bytes before (x ∷ xs) zero h = ap (λ (w : List Listed). rank_of bytes w x xs) (sym (append-nil before))
ranks-at bytes before (x ∷ xs) (suc p) h =
    ranks-at bytes (before ++ x ∷ []) xs p (omega (arith, h)) ∙ ap (λ (w : List Listed). rank_of bytes w (get_or xs p none) (drop (suc p) xs)) (append_snoc before x (take p xs))

-- ---- the elements that words list
listed-length : (n : ℕ) (es : List ℕ) → length (listed n es) ≡ n
unfolding listed
listed-length zero es = refl
listed-length (suc n) es = ap suc (listed-length n (drop 5 es))

listed_at : (n : ℕ) (es : List ℕ) (p : ℕ) → p < n → get_or (listed n es) p none ≡ element_at es p
unfolding listed
listed_at zero es p h = absurd (omega (arith, h))
listed_at (suc n) es zero h = refl
listed_at (suc n) es (suc p) h =
    let e : 5 + p * 5 ≡ suc p * 5 = omega arith in
    listed_at n (drop 5 es) p (omega (arith, h)) ∙ ap (λ (w : List ℕ). element_in w) (drop-drop (p * 5) 5 es ∙ ap (λ (k : ℕ). drop k es) e)

-- ---- the rank of a place
module _ (bytes es : List ℕ) (n : ℕ) where
  pub rank_at : ℕ → ℕ
  rank_at p = rank_of bytes (take p (listed n es)) (element_at es p) (drop (suc p) (listed n es))

  like-alike : (p q : ℕ) → p < n → q < n → like_at bytes es n p q ≡ alike bytes (element_at es p) (element_at es q)
  unfolding like_at keyed_at
  like-alike p q h k = rw (lt-ltb p n h, lt-ltb q n k)

  front_at : (p k : ℕ) → p < n → k < p → get_or (take p (listed n es)) k none ≡ element_at es k
  front_at p k h g = get_or-take p (listed n es) k none g ∙ listed_at n es k (omega (arith, h, g))

  back_at : (p k : ℕ) → suc p + k < n → get_or (drop (suc p) (listed n es)) k none ≡ element_at es (suc p + k)
  back_at p k h = get_or-drop (suc p) (listed n es) k none ∙ listed_at n es (suc p + k) h

  front_length : (p : ℕ) → p < n → length (take p (listed n es)) ≡ p
  front_length p h = length-take-le p (listed n es) (omega (arith, h, listed-length n es))

  back-length : (p : ℕ) → length (drop (suc p) (listed n es)) ≡ n - suc p
  back-length p = length-drop (suc p) (listed n es) ∙ ap (λ (k : ℕ). k - suc p) (listed-length n es)

  back_none : (p k : ℕ) → p < n → k < length (drop (suc p) (listed n es)) → like_at bytes es n p (suc p + k) ≡ false
      → alike bytes (element_at es p) (get_or (drop (suc p) (listed n es)) k none) ≡ false
  back_none p k h g e =
      let l : suc p + k < n = omega (arith, g, back-length p) in
      ap (λ (y : Listed). alike bytes (element_at es p) y) (back_at p k l) ∙ sym (like-alike p (suc p + k) h l) ∙ e

  not-past : (p last : ℕ) → Last (like_at bytes es n) n p last → (y : ℕ) → y < n → last < y → like_at bytes es n p y ≡ false
  not-past p last l y h g = by-test (like_at bytes es n p y) refl
    where
      by-test : (t : Bool) → like_at bytes es n p y ≡ t → like_at bytes es n p y ≡ false
      by-test true e = absurd (omega (arith, g, l.most y h e))
      by-test false e = e

  last-is : (p last : ℕ) → p < n → Last (like_at bytes es n) n p last
      → last + 1 ≡ suc (last_place bytes (element_at es p) (suc (length (take p (listed n es)))) (length (take p (listed n es))) (drop (suc p) (listed n es)))
  last-is p last h l = rw (front_length p h) (by-test (ltb p last) refl)
    where
      itself : last ≤ p → last ≡ p
      itself g = ⊎_elim (λ q. q) (λ e. omega (arith, g, l.most p h (like-self e))) l.is
        where
          like-self : like_at bytes es n p last ≡ true → like_at bytes es n p p ≡ true
          like-self e =
              let o = ordered bytes es n in
              let a = o.level p last e in
              o.alike p p (o.keyed p last e).0 (o.trans p last p a.0 a.1) (o.trans p last p a.0 a.1)

      by-test : (t : Bool) → ltb p last ≡ t → last + 1 ≡ suc (last_place bytes (element_at es p) (suc p) p (drop (suc p) (listed n es)))
      by-test false v =
          let w = place_none bytes (element_at es p) (suc p) p (drop (suc p) (listed n es))
          (λ k g. back_none p k h g (not-past p last l (suc p + k) (omega (arith, g, back-length p)) (omega (arith, ltb-false p last v)))) in
          omega (arith, w, itself (ltb-false p last v))
      by-test true v =
          let g = ltb-true p last v in
          let k : suc p + (last - suc p) ≡ last = omega (arith, g) in
          let w = place-some bytes (element_at es p) (suc p) p (drop (suc p) (listed n es)) (last - suc p) (omega (arith, g, l.small, back-length p)) (found g k)
          (λ i u d. back_none p i h d (not-past p last l (suc p + i) (omega (arith, d, back-length p)) (omega (arith, u, g)))) in
          omega (arith, w, k)
        where
          found : p < last → suc p + (last - suc p) ≡ last → alike bytes (element_at es p) (get_or (drop (suc p) (listed n es)) (last - suc p) none) ≡ true
          found g k =
              ap (λ (y : Listed). alike bytes (element_at es p) y) (back_at p (last - suc p) (omega (arith, k, l.small)) ∙ ap (λ (j : ℕ). element_at es j) k)
              ∙ sym (like-alike p last h l.small) ∙ ⊎_elim (λ q. absurd (omega (arith, q, g))) (λ e. e) l.is

  -- what is told of the sorted places from i on is written
  pub record Marked (ps now : List ℕ) (i last : ℕ) : Type 0 where
    pub size : length now ≡ n
    pub high : i ≤ n
    pub next : i < n → Last (like_at bytes es n) n (get_or ps i 0) last
    pub done : (k : ℕ) → i ≤ k → k < n → get_or now (get_or ps k 0) 0 ≡ rank_at (get_or ps k 0)

  module _ (ps : List ℕ) (s : Sorted (place_le bytes es n) n ps) where
    seen-is : (i : ℕ) → i < n → joined (like_at bytes es n) ps i ≡ seen bytes (element_at es (get_or ps i 0)) (take (get_or ps i 0) (listed n es))
    seen-is i h = by-test (joined (like_at bytes es n) ps i) refl
      where
        small : get_or ps i 0 < n
        small = s.small i h

        by-test : (t : Bool) → joined (like_at bytes es n) ps i ≡ t → t ≡ seen bytes (element_at es (get_or ps i 0)) (take (get_or ps i 0) (listed n es))
        by-test true e =
            let w = seen-prior (keyed_at es n) (place_le bytes es n) (like_at bytes es n) (ordered bytes es n) n ps s i h e in
            let g = w.0 in
            sym (seen-some bytes (element_at es (get_or ps i 0)) (take (get_or ps i 0) (listed n es)) (get_or ps (i - 1) 0) (omega (arith, g, front_length (get_or ps i 0) small))
            (ap (λ (y : Listed). alike bytes (element_at es (get_or ps i 0)) y) (front_at (get_or ps i 0) (get_or ps (i - 1) 0) small g)
            ∙ sym (like-alike (get_or ps i 0) (get_or ps (i - 1) 0) small (omega (arith, g, small))) ∙ w.1))
        by-test false e =
            sym (seen_none bytes (element_at es (get_or ps i 0)) (take (get_or ps i 0) (listed n es)) (λ k g.
            let l : k < get_or ps i 0 = omega (arith, g, front_length (get_or ps i 0) small) in
            ap (λ (y : Listed). alike bytes (element_at es (get_or ps i 0)) y) (front_at (get_or ps i 0) k small l)
            ∙ sym (like-alike (get_or ps i 0) k small (omega (arith, l, small)))
            ∙ unseen (keyed_at es n) (place_le bytes es n) (like_at bytes es n) (ordered bytes es n) n ps s i h e k l))

    keyed-is : (p : ℕ) → p < n → keyed_at es n p ≡ is_keyed (element_at es p)
    unfolding keyed_at
    keyed-is p h = rw (lt-ltb p n h)

    worth-is : (i last : ℕ) → i < n → Last (like_at bytes es n) n (get_or ps i 0) last → worth (like_at bytes es n) ps (keyed_at es n) i last ≡ rank_at (get_or ps i 0)
    unfolding rank_at
    worth-is i last h l =
        ap (λ (t : Bool). pick (either (not t) (joined (like_at bytes es n) ps i)) 0 (last + 1)) (keyed-is (get_or ps i 0) (s.small i h))
        ∙ ap (λ (t : Bool). pick (either (not (is_keyed (element_at es (get_or ps i 0)))) t) 0 (last + 1)) (seen-is i h)
        ∙ ap (λ (k : ℕ). pick (either (not (is_keyed (element_at es (get_or ps i 0)))) (seen bytes (element_at es (get_or ps i 0)) (take (get_or ps i 0) (listed n es)))) 0 k) (last-is (get_or ps i 0) last (s.small i h) l)

    -- ---- the loop
    pub marked_start : (now : List ℕ) (last : ℕ) → length now ≡ n → Marked ps now n last
    marked_start now last e = record { size = e; high = omega arith; next = λ h. absurd (omega (arith, h)); done = λ k h g. absurd (omega (arith, h, g)) }

    marked-last : (now : List ℕ) (i last : ℕ) → 0 < i → Marked ps now i last → Last (like_at bytes es n) n (get_or ps (i - 1) 0) (last_by (like_at bytes es n) ps (i - 1) last)
    marked-last now i last h m =
        let e : i - 1 + 1 ≡ i = omega (arith, h) in
        last_step (keyed_at es n) (place_le bytes es n) (like_at bytes es n) (ordered bytes es n) n ps s (i - 1) last (omega (arith, h, m.high)) (rw e m.next)

    pub marked-small : (now : List ℕ) (i last next : ℕ) → 0 < i → Marked ps now i last → next ≡ last_by (like_at bytes es n) ps (i - 1) last → next < n
    marked-small now i last next h m e = rw e (marked-last now i last h m).small

    pub marked_turn : (now : List ℕ) (i last next v : ℕ) → 0 < i → Marked ps now i last → next ≡ last_by (like_at bytes es n) ps (i - 1) last
        → v ≡ worth (like_at bytes es n) ps (keyed_at es n) (i - 1) next → Marked ps (set now (get_or ps (i - 1) 0) v) (i - 1) next
    marked_turn now i last next v h m p q = record {
      size = length-set now (get_or ps (i - 1) 0) v ∙ m.size;
      high = omega (arith, m.high);
      next = λ g. l;
      done = λ k g d. by-test k g d (eqb k (i - 1)) refl;
    }
      where
        within : i - 1 < n
        within = omega (arith, h, m.high)

        l : Last (like_at bytes es n) n (get_or ps (i - 1) 0) next
        l = rw p (marked-last now i last h m)

        by-test : (k : ℕ) → i - 1 ≤ k → k < n → (t : Bool) → eqb k (i - 1) ≡ t → get_or (set now (get_or ps (i - 1) 0) v) (get_or ps k 0) 0 ≡ rank_at (get_or ps k 0)
        by-test k g d true e =
            rw (eqb-true k (i - 1) e) (get_or-set_same now (get_or ps (i - 1) 0) v 0 (omega (arith, s.small (i - 1) within, m.size)) ∙ q ∙ worth-is (i - 1) next within l)
        by-test k g d false e =
            let u : i - 1 < k = omega (arith, g, eqb-false k (i - 1) e) in
            get_or-set_other now (get_or ps (i - 1) 0) (get_or ps k 0) v 0 (apart (keyed_at es n) (place_le bytes es n) (like_at bytes es n) (ordered bytes es n) n ps s (i - 1) k u d)
            ∙ m.done k (omega (arith, u)) d

    pub marked-end : (now : List ℕ) (i last : ℕ) → i ≤ 0 → Marked ps now i last → now ≡ ranks_of bytes (listed n es)
    unfolding rank_at
    marked-end now i last h m = ext_get_or 0 now (ranks_of bytes (listed n es)) (m.size ∙ sym (ranks-length bytes [] (listed n es) ∙ listed-length n es)) same
      where
        same : (p : ℕ) → p < length now → get_or now p 0 ≡ get_or (ranks_of bytes (listed n es)) p 0
        same p g =
            let l : p < n = omega (arith, g, m.size) in
            let a = s.every p l in
            subst (λ (q : ℕ). get_or now q 0 ≡ rank_at q) a.is (m.done a.index (omega (arith, h)) (omega (arith, a.within, s.size)))
            ∙ sym (ranks-at bytes [] (listed n es) p (omega (arith, l, listed-length n es)) ∙ ap (λ (x : Listed). rank_of bytes (take p (listed n es)) x (drop (suc p) (listed n es))) (listed_at n es p l))
