-- What each element shows, by its rank. Assumes nothing.
use Prim.Native.Nat.{ℕ, zero, suc, ◌+◌, ◌-◌, ◌*◌, ◌≤◌, ◌<◌}
use mathlib.Core.Path.{◌≡◌, refl, sym, ap, ◌∙◌}
use mathlib.Core.Bool.{Bool, true, false, not}
use mathlib.Core.List.{List, [], ◌∷◌, ◌++◌, append-nil, append_assoc}
use native.Mathlib.Omega.{arith}
use native.Mathlib.Nat.{add-zero, le_of_suc-le-suc, not-suc-le-zero}
use lib.Dec.{eqb, ltb}
use lib.ListN.{length, get_or, take, drop, replicate}
use lib.Seq.{sets, drop-drop, length-take-le, take_at}
use borrow.Author.Tests.{eqb-true, eqb-false, ltb-true, ltb-false, eq-eqb, ne_eqb, lt-ltb, le-ltb}
use Rattle.std.specs.Prelude.{min}
use Rattle.classes.specs.Choice.{pick, both, either}
use Rattle.sets.specs.Opened.{Answer, Outcome, refused_as, open_of}
use Rattle.sets.specs.Layout.{Listed, element_in, listed, words_of}
use Rattle.keys.specs.Keys.{class_key, key_of, is_keyed, has_key}
use Rattle.equals.specs.Same.{same}
use Rattle.ranks.specs.Ranks.{alike, seen, last_place, rank_of, ranks_from, ranks_of}
use Rattle.values.proofs.KeptLaws.{Kept, kept-pass, kept-join}
use Rattle.pairs.specs.Pairs.{lesser, further, valued, last_like, shown, pairs_from, pairs_in, pairs_of}
use Rattle.pairs.specs.View.{shown_by, paired_by}

-- ---- one element
module _ (bytes : List ℕ) (x y : Listed) (rank : ℕ) where
  pub shows-class : has_key bytes class_key x ≡ true → (rank ≡ 0 → ⊥) → x ∷ [] ≡ shown_by bytes x rank y
  shows-class c n = rw (c, ne_eqb rank 0 n)

  pub shows-further : has_key bytes class_key x ≡ true → rank ≡ 0 → further x ∷ [] ≡ shown_by bytes x rank y
  shows-further c z = rw (c, z)

  pub shows-none : has_key bytes class_key x ≡ false → rank ≡ 0 → [] ≡ shown_by bytes x rank y
  shows-none c z = rw (c, z)

  pub shows-value : has_key bytes class_key x ≡ false → (rank ≡ 0 → ⊥) → valued x y ∷ [] ≡ shown_by bytes x rank y
  shows-value c n = rw (c, ne_eqb rank 0 n)

pub lesser-min : (a b : ℕ) → min a b ≡ lesser a b
lesser-min a b = by-test (ltb a b) refl
  where
    by-test : (t : Bool) → ltb a b ≡ t → min a b ≡ pick t a b
    by-test true e = omega (arith, ltb-true a b e)
    by-test false e = omega (arith, ltb-false a b e)

-- ---- all elements, and those from one on
length-listed : (n : ℕ) (es : List ℕ) → length (listed n es) ≡ n
unfolding listed
length-listed zero es = refl
length-listed (suc n) es = ap suc (length-listed n (drop 5 es))

drop-listed : (i n : ℕ) (es : List ℕ) → i ≤ n → drop i (listed n es) ≡ listed (n - i) (drop (i * 5) es)
unfolding listed
drop-listed zero n es h = let e : n - 0 ≡ n = omega arith in rw e
drop-listed (suc i) zero es h = absurd (not-suc-le-zero h)
drop-listed (suc i) (suc n) es h =
    let e : 5 + i * 5 ≡ suc i * 5 = omega arith in
    let d : suc n - suc i ≡ n - i = omega arith in
    drop-listed i n (drop 5 es) (le_of_suc-le-suc h) ∙ rw (drop-drop (i * 5) 5 es, e, d)

get_d-listed : (i n : ℕ) (es : List ℕ) (d : Listed) → i < n → get_or (listed n es) i d ≡ element_in (drop (i * 5) es)
unfolding listed
get_d-listed i zero es d h = absurd (not-suc-le-zero h)
get_d-listed zero (suc n) es d h = refl
get_d-listed (suc i) (suc n) es d h =
    let e : 5 + i * 5 ≡ suc i * 5 = omega arith in
    get_d-listed i n (drop 5 es) d (le_of_suc-le-suc h) ∙ rw (drop-drop (i * 5) 5 es, e)

take_next : (xs : List Listed) (i : ℕ) (d : Listed) → i < length xs → take (i + 1) xs ≡ take i xs ++ get_or xs i d ∷ []
take_next [] i d h = absurd (not-suc-le-zero h)
take_next (x ∷ xs) zero d h = refl
take_next (x ∷ xs) (suc i) d h = let e : suc i + 1 ≡ suc (i + 1) = omega arith in rw (e, take_next xs i d (le_of_suc-le-suc h))

-- ---- ranks
ranks-at : (bytes : List ℕ) (xs before : List Listed) (i : ℕ) (d : Listed) → i < length xs
    → get_or (ranks_from bytes before xs) i 0 ≡ rank_of bytes (before ++ take i xs) (get_or xs i d) (drop (i + 1) xs)
unfolding ranks_from
ranks-at bytes [] before i d h = absurd (not-suc-le-zero h)
ranks-at bytes (x ∷ xs) before zero d h = rw (append-nil before)
ranks-at bytes (x ∷ xs) before (suc i) d h =
    let e : suc i + 1 ≡ suc (i + 1) = omega arith in
    ranks-at bytes xs (before ++ x ∷ []) i d (le_of_suc-le-suc h) ∙ rw (append_assoc before (x ∷ []) (take i xs), e)

-- the last place of a key is at or behind the present one, and is one of the elements'
last-between : (bytes : List ℕ) (x : Listed) (ys : List Listed) (j d : ℕ) → d < j → (d ≤ last_place bytes x j d ys) × (last_place bytes x j d ys < j + length ys)
unfolding last_place
last-between bytes x [] j d h = (omega arith, omega (arith, h))
last-between bytes x (y ∷ ys) j d h = by-test (alike bytes x y) (last-between bytes x ys (suc j) j (omega arith)) (last-between bytes x ys (suc j) d (omega (arith, h)))
  where
    by-test : (t : Bool) → (j ≤ last_place bytes x (suc j) j ys) × (last_place bytes x (suc j) j ys < suc j + length ys) → (d ≤ last_place bytes x (suc j) d ys) × (last_place bytes x (suc j) d ys < suc j + length ys)
        → (d ≤ last_place bytes x (suc j) (pick t j d) ys) × (last_place bytes x (suc j) (pick t j d) ys < j + suc (length ys))
    by-test true p q = (omega (arith, h, p.0), omega (arith, p.1))
    by-test false p q = (q.0, omega (arith, q.1))

cons-nil : (z : Listed) (zs : List Listed) → ◌≡◌ {A = List Listed} [] (z ∷ zs) → ⊥
cons-nil z zs p = omega (arith, ap (λ (l : List Listed). length l) p)

next : (all : List Listed) (j : ℕ) (z : Listed) (zs : List Listed) → drop j all ≡ z ∷ zs → drop (suc j) all ≡ zs
next [] zero z zs p = absurd (cons-nil z zs p)
next [] (suc j) z zs p = absurd (cons-nil z zs p)
next (x ∷ xs) zero z zs p = ap (λ (l : List Listed). drop 1 l) p
next (x ∷ xs) (suc j) z zs p = next xs j z zs p

here : (all : List Listed) (j : ℕ) (z : Listed) (zs : List Listed) (e : Listed) → drop j all ≡ z ∷ zs → get_or all j e ≡ z
here [] zero z zs e p = absurd (cons-nil z zs p)
here [] (suc j) z zs e p = absurd (cons-nil z zs p)
here (x ∷ xs) zero z zs e p = ap (λ (l : List Listed). get_or l 0 e) p
here (x ∷ xs) (suc j) z zs e p = here xs j z zs e p

last-is : (bytes : List ℕ) (x : Listed) (all ys : List Listed) (j d : ℕ) (y e : Listed) → drop j all ≡ ys → get_or all d e ≡ y
    → get_or all (last_place bytes x j d ys) e ≡ last_like bytes x y ys
unfolding last_place last_like
last-is bytes x all [] j d y e p q = q
last-is bytes x all (z ∷ zs) j d y e p q =
    by-test (alike bytes x z) (last-is bytes x all zs (suc j) j z e (next all j z zs p) (here all j z zs e p)) (last-is bytes x all zs (suc j) d y e (next all j z zs p) q)
  where
    by-test : (t : Bool) → get_or all (last_place bytes x (suc j) j zs) e ≡ last_like bytes x z zs → get_or all (last_place bytes x (suc j) d zs) e ≡ last_like bytes x y zs
        → get_or all (last_place bytes x (suc j) (pick t j d) zs) e ≡ last_like bytes x (pick t z y) zs
    by-test true a b = a
    by-test false a b = b

-- what an element shows by the definition, it shows by its rank
shown-is : (bytes : List ℕ) (before : List Listed) (x : Listed) (after : List Listed) → shown bytes before x after ≡ shown_by bytes x (rank_of bytes before x after) (last_like bytes x x after)
unfolding shown has_key
shown-is bytes before x after = by-test (is_keyed x) (seen bytes x before) (same (key_of bytes x) class_key)
  where
    by-test : (k s c : Bool)
        → pick (both k c) (pick s (further x ∷ []) (x ∷ [])) (pick (either (not k) s) [] (valued x (last_like bytes x x after) ∷ []))
        ≡ pick (both k c) (pick (eqb (pick (either (not k) s) 0 (suc (last_place bytes x (suc (length before)) (length before) after))) 0) (further x ∷ []) (x ∷ []))
        (pick (eqb (pick (either (not k) s) 0 (suc (last_place bytes x (suc (length before)) (length before) after))) 0) [] (valued x (last_like bytes x x after) ∷ []))
    by-test true true c = refl
    by-test true false c = rw (ne_eqb (suc (last_place bytes x (suc (length before)) (length before) after)) 0 (λ e. omega (arith, e)))
    by-test false s c = refl

-- ---- the loop: what is kept, and what the elements from i on show
abbrev pub showing : List ℕ → List Listed → ℕ → List Listed → List Listed → List Listed
showing bytes all i xs ks = ks ++ pairs_from bytes (take i all) xs

pub showing-end : (bytes : List ℕ) (all : List Listed) (i : ℕ) (ks : List Listed) → showing bytes all i [] ks ≡ ks
unfolding pairs_from
showing-end bytes all i ks = append-nil ks

module _ (bytes : List ℕ) (n : ℕ) (es₀ ranks : List ℕ) (ln : length ranks ≡ n) (rk : ranks ≡ ranks_of bytes (listed n es₀)) (es : List ℕ) (m i : ℕ)
    (k : Kept (showing bytes (listed n es₀)) n es₀ es m i) (h : i < n) where
  abbrev all : List Listed
  all = listed n es₀

  abbrev me : Listed
  me = element_in (drop (i * 5) es₀)

  abbrev after : List Listed
  after = listed (n - (i + 1)) (drop ((i + 1) * 5) es₀)

  abbrev rank : ℕ
  rank = get_or ranks i 0

  after_is : drop (i + 1) all ≡ after
  after_is = drop-listed (i + 1) n es₀ (omega (arith, h))

  rank_is : rank ≡ rank_of bytes (take i all) me after
  rank_is =
      ap (λ (l : List ℕ). get_or l i 0) rk ∙ ranks-at bytes all [] i me (omega (arith, h, length-listed n es₀))
      ∙ rw (get_d-listed i n es₀ me h, after_is)

  before-length : length (take i all) ≡ i
  before-length = length-take-le i all (omega (arith, h, length-listed n es₀))

  -- a rank is 0, or one more than a place at or behind i
  between : (rank ≡ 0 → ⊥) → (i ≤ rank - 1) × (rank ≤ n)
  between z = by-test (either (not (is_keyed me)) (seen bytes me (take i all))) rank_is
    where
      by-test : (t : Bool) → rank ≡ pick t 0 (suc (last_place bytes me (suc (length (take i all))) (length (take i all)) after)) → (i ≤ rank - 1) × (rank ≤ n)
      by-test true e = absurd (z e)
      by-test false e =
          let l = last-between bytes me after (suc (length (take i all))) (length (take i all)) (omega arith) in
          (omega (arith, e, l.0, before-length), omega (arith, e, l.1, before-length, length-listed (n - (i + 1)) (drop ((i + 1) * 5) es₀), h))

  pub rank_room : rank * 5 ≤ length es
  rank_room = by-test (eqb rank 0) refl
    where
      by-test : (t : Bool) → eqb rank 0 ≡ t → rank * 5 ≤ length es
      by-test true e = omega (arith, eqb-true rank 0 e)
      by-test false e = omega (arith, (between (eqb-false rank 0 e)).1, k.room, k.size)

  -- elements from i on are as they were
  as-was : (j : ℕ) → i ≤ j → element_in (drop (j * 5) es) ≡ element_in (drop (j * 5) es₀)
  as-was j l =
      let e : i * 5 + (j * 5 - i * 5) ≡ j * 5 = omega (arith, l) in
      let d : drop (j * 5) es ≡ drop (j * 5) es₀ = rw (← e, ← drop-drop (j * 5 - i * 5) (i * 5) es, ← drop-drop (j * 5 - i * 5) (i * 5) es₀, k.ahead) in
      ap element_in d

  last-element : (rank ≡ 0 → ⊥) → element_in (drop ((rank - 1) * 5) es) ≡ last_like bytes me me after
  last-element z = as-was (rank - 1) (between z).0 ∙ by-test (either (not (is_keyed me)) (seen bytes me (take i all))) rank_is
    where
      by-test : (t : Bool) → rank ≡ pick t 0 (suc (last_place bytes me (suc (length (take i all))) (length (take i all)) after))
          → element_in (drop ((rank - 1) * 5) es₀) ≡ last_like bytes me me after
      by-test true e = absurd (z e)
      by-test false e =
          let q : rank ≡ suc (last_place bytes me (suc i) i after) = e ∙ ap (λ (b : ℕ). suc (last_place bytes me (suc b) b after)) before-length in
          let p : rank - 1 ≡ last_place bytes me (suc i) i after = omega (arith, q) in
          let s : suc i ≡ i + 1 = omega arith in
          sym (get_d-listed (rank - 1) n es₀ me (omega (arith, (between z).1, z))) ∙ rw p (last-is bytes me all after (suc i) i me me (rw s after_is) (get_d-listed i n es₀ me h))

  -- so what the step puts there is what the element shows
  shows : shown_by bytes (element_in (drop (i * 5) es)) rank (element_in (drop ((rank - 1) * 5) es)) ≡ shown bytes (take i all) me after
  shows =
      ap (λ (x : Listed). shown_by bytes x rank (element_in (drop ((rank - 1) * 5) es))) (as-was i (omega arith))
      ∙ by-test (eqb rank 0) refl ∙ ap (λ (r : ℕ). shown_by bytes me r (last_like bytes me me after)) rank_is ∙ sym (shown-is bytes (take i all) me after)
    where
      by-test : (t : Bool) → eqb rank 0 ≡ t → shown_by bytes me rank (element_in (drop ((rank - 1) * 5) es)) ≡ shown_by bytes me rank (last_like bytes me me after)
      by-test true e = rw e
      by-test false e = ap (λ (y : Listed). shown_by bytes me rank y) (last-element (eqb-false rank 0 e))

  shown-next : (ks : List Listed) → showing bytes all i (element_in (drop (i * 5) es) ∷ after) ks ≡ showing bytes all (i + 1) after (ks ++ shown bytes (take i all) me after)
  unfolding pairs_from
  shown-next ks =
      rw (as-was i (omega arith), take_next all i me (omega (arith, h, length-listed n es₀)), get_d-listed i n es₀ me h)
      (sym (append_assoc ks (shown bytes (take i all) me after) (pairs_from bytes (take i all ++ me ∷ []) after)))

  module _ (x y : Listed) (qx : x ≡ element_in (drop (i * 5) es)) (qy : y ≡ element_in (drop ((rank - 1) * 5) es)) where
    shows-as : shown_by bytes x rank y ≡ shown bytes (take i all) me after
    shows-as = rw (qx, qy) shows

    pub showing-pass : [] ≡ shown_by bytes x rank y → Kept (showing bytes all) n es₀ es m (i + 1)
    showing-pass e = kept-pass (showing bytes all) n es₀ es m i k h (λ ks. shown-next ks ∙ rw (← shows-as, ← e) (append-nil-in ks))
      where
        append-nil-in : (ks : List Listed) → showing bytes all (i + 1) after (ks ++ []) ≡ showing bytes all (i + 1) after ks
        append-nil-in ks = rw (append-nil ks)

    pub showing-take : (z : Listed) → z ∷ [] ≡ shown_by bytes x rank y → (es' : List ℕ) → es' ≡ sets es (m * 5) (words_of (z ∷ [])) → Kept (showing bytes all) n es₀ es' (m + 1) (i + 1)
    showing-take z e es' p = kept-join (showing bytes all) n es₀ es m i k h es' z p (λ ks. shown-next ks ∙ rw (← shows-as, ← e))

-- ---- ranks stand in the first n words of those that were lent
module _ (bytes es spare l tail : List ℕ) (n : ℕ) (f : n ≤ length spare) (k : length l ≡ length (take n spare)) where
  ranked-length : length l ≡ n
  ranked-length = k ∙ length-take-le n spare f

  pub ranked-part : take n (l ++ tail) ≡ l
  ranked-part = take_at l tail n ranked-length

  pub ranked-count : n ≡ length (take n (l ++ tail))
  ranked-count = sym (ap (λ (x : List ℕ). length x) ranked-part ∙ ranked-length)

  pub ranked-ready : n * 5 ≤ length es → l ≡ ranks_of bytes (listed (length (take n spare)) es)
      → (length (take n (l ++ tail)) * 5 ≤ length es) × (take n (l ++ tail) ≡ ranks_of bytes (listed (length (take n (l ++ tail))) es))
  ranked-ready h e = (omega (arith, ranked-count, h), ranked-part ∙ e ∙ ap (λ (x : ℕ). ranks_of bytes (listed x es)) (length-take-le n spare f ∙ ranked-count))

pub counted : (bytes es es' : List ℕ) (r n k : ℕ) → n ≡ k → (take (r * 5) es' ≡ words_of (pairs_in bytes (listed k es))) × (r ≡ length (pairs_in bytes (listed k es))) × (r ≤ k)
    → (take (r * 5) es' ≡ words_of (pairs_in bytes (listed n es))) × (r ≡ length (pairs_in bytes (listed n es))) × (r ≤ n)
counted bytes es es' r n k e p = rw e p

-- ---- the answer and every word
abbrev Answers : Outcome → Answer → List ℕ → List ℕ → Type 0
Answers o z es ps = (z ≡ o.answer) × (es ≡ o.elements) × (ps ≡ o.pieces)

module _ (bytes es ps : List ℕ) (room n : ℕ) where
  pub paired-refused : room < n → (x : Listed) → x ≡ element_in (drop (room * 5) es) → (es' ps' : List ℕ) → es' ≡ replicate (length es) 0 → ps' ≡ replicate (length ps) 0
      → Answers (paired_by bytes es ps room n) (record { number = 13; position = x.to; count = 0 }) es' ps'
  paired-refused h x q es' ps' b c =
      let w : (get_or (listed n es) room (element_in [])).to ≡ x.to = ap (λ (x : Listed). x.to) (get_d-listed room n es (element_in []) h ∙ sym q) in
      rw (lt-ltb room n h, w) (refl, b, c)

  pub paired-shown : n ≤ room → (m : ℕ) (es' es'' : List ℕ) → length es' ≡ length es → take (m * 5) es' ≡ words_of (pairs_in bytes (listed n es)) → m ≡ length (pairs_in bytes (listed n es))
      → es'' ≡ take (m * 5) es' ++ replicate (length es' - m * 5) 0 → Answers (paired_by bytes es ps room n) (record { number = 0; position = length bytes; count = m }) es'' ps
  paired-shown h m es' es'' l w k q = rw (le-ltb room n h) (rw (← k), q ∙ rw (w, l, k), refl)

module _ (bytes : List ℕ) (ne np room : ℕ) (z : Answer) (es ps : List ℕ) (a : z ≡ (open_of bytes ne np).answer) (b : es ≡ (open_of bytes ne np).elements) (c : ps ≡ (open_of bytes ne np).pieces) where
  pub pairs-refused : (z.number ≡ 0 → ⊥) → Answers (pairs_of bytes ne np room) z es ps
  unfolding pairs_of
  pairs-refused n = rw (ne_eqb (open_of bytes ne np).answer.number 0 (λ e. n (ap (λ (x : Answer). x.number) a ∙ e))) (a, b, c)

  pub pairs-paired : z.number ≡ 0 → length es ≡ ne → length ps ≡ np → (z' : Answer) (es' ps' : List ℕ) → Answers (paired_by bytes es ps room z.count) z' es' ps' → Answers (pairs_of bytes ne np room) z' es' ps'
  unfolding pairs_of
  pairs-paired n le lp z' es' ps' t =
      let e = eq-eqb (open_of bytes ne np).answer.number 0 (sym (ap (λ (x : Answer). x.number) a) ∙ n) in
      rw (e, ← a, ← b, ← c, ← le, ← lp) t
