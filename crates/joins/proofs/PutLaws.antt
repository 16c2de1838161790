-- A piece more, and pieces in their order: what they add, and how long the text is. Assumes nothing.
use Prim.Native.Nat.{ℕ, zero, suc, ◌+◌, ◌-◌, ◌*◌, ◌≤◌, ◌<◌}
use mathlib.Core.Path.{◌≡◌, refl, sym, ap, ◌∙◌, subst}
use mathlib.Core.Bool.{Bool, true, false}
use mathlib.Core.List.{List, [], ◌∷◌, ◌++◌, append-nil, append_assoc}
use native.Mathlib.Omega.{arith}
use native.Mathlib.Nat.{sub-zero, zero-sub, suc-sub-suc, add-zero}
use lib.Dec.{ltb, eqb, leb}
use lib.ListN.{length, take, drop, length-append}
use lib.Seq.{drop-drop, take-nil}
use borrow.Author.Tests.{eq-eqb, ne_eqb, le-leb, lt-leb, leb-true, ltb-true, ltb-false}
use Rattle.std.specs.Prelude.{Result, Ok, Err, min}
use Rattle.refusals.specs.declared.Refused.{Refused}
use Rattle.refusals.specs.declared.Refusal.TheVariants.{BytesFull}
use Rattle.classes.specs.Choice.{pick}
use Rattle.sinks.specs.Laws.{SinkLaws}
use Rattle.sets.specs.Layout.{Listed, Spanned, element_in, piece_in, listed, spanned, own}
use Rattle.values.proofs.KeptLaws.{listed_next, listed-end}
use Rattle.joins.specs.Joins.{bytes_of, pieces_of}
use Rattle.joins.specs.View.{added, length_by, added_by}

-- ---- what a piece adds
module _ (glue : List ℕ) (n : ℕ) (s : List ℕ) where
  pub added_none : length s ≡ 0 → added glue n s ≡ []
  unfolding added
  added_none e = rw (eq-eqb (length s) 0 e)

  pub added-first : (length s ≡ 0 → ⊥) → n ≡ 0 → added glue n s ≡ [] ++ s
  unfolding added
  added-first m e = rw (ne_eqb (length s) 0 m, eq-eqb n 0 e)

  pub added_more : (length s ≡ 0 → ⊥) → (n ≡ 0 → ⊥) → added glue n s ≡ glue ++ s
  unfolding added
  added_more m k = rw (ne_eqb (length s) 0 m, ne_eqb n 0 k)

module _ (bytes glue : List ℕ) (room : ℕ) where
  abbrev long : ℕ → List Spanned → Result ℕ Refused
  long n ps = length_by bytes glue room n ps

  abbrev adds : ℕ → List Spanned → List ℕ
  adds n ps = added_by bytes glue n ps

  -- ---- one piece more
  module _ (n : ℕ) (p : Spanned) (s t : List ℕ) (b : s ≡ bytes_of bytes p) (e : added glue n s ≡ t) where
    pub piece-room : n + length t ≤ room → (◌≡◌ {A = Result ℕ Refused} (Ok (n + length t)) (long n (p ∷ []))) × (t ≡ adds n (p ∷ []))
    unfolding length_by added_by
    piece-room h = rw (← b, e, le-leb (n + length t) room h) (refl, sym (append-nil t))

    pub piece_full : room < n + length t → ◌≡◌ {A = Result ℕ Refused} (Err (record { why = BytesFull; at = p.start })) (long n (p ∷ []))
    unfolding length_by
    piece_full h = rw (← b, e, lt-leb (n + length t) room h)

  -- ---- pieces behind others
  err-ok : (x : Refused) (k : ℕ) → ◌≡◌ {A = Result ℕ Refused} (Err x) (Ok k) → ⊥
  err-ok x k p = cc

  ok-same : (m k : ℕ) → ◌≡◌ {A = Result ℕ Refused} (Ok m) (Ok k) → m ≡ k
  ok-same m k p = cc

  long-append : (n k : ℕ) (xs ys : List Spanned) → Ok k ≡ long n xs → long n (xs ++ ys) ≡ long k ys
  unfolding length_by
  long-append n k [] ys e = rw (ok-same k n e)
  long-append n k (p ∷ xs) ys e = by-test (leb (n + length (added glue n (bytes_of bytes p))) room) (long-append (n + length (added glue n (bytes_of bytes p))) k xs ys) e
    where
      by-test : (t : Bool) → let m = n + length (added glue n (bytes_of bytes p)) in (Ok k ≡ long m xs → long m (xs ++ ys) ≡ long k ys)
          → Ok k ≡ pick t (long m xs) (Err (record { why = BytesFull; at = p.start })) → pick t (long m (xs ++ ys)) (Err (record { why = BytesFull; at = p.start })) ≡ long k ys
      by-test true more e = more e
      by-test false more e = absurd (err-ok _ k (sym e))

  long-stops : (n : ℕ) (x : Refused) (xs ys : List Spanned) → Err x ≡ long n xs → Err x ≡ long n (xs ++ ys)
  unfolding length_by
  long-stops n x [] ys e = absurd (err-ok x n e)
  long-stops n x (p ∷ xs) ys e = by-test (leb (n + length (added glue n (bytes_of bytes p))) room) (long-stops (n + length (added glue n (bytes_of bytes p))) x xs ys) e
    where
      by-test : (t : Bool) → let m = n + length (added glue n (bytes_of bytes p)) in (Err x ≡ long m xs → Err x ≡ long m (xs ++ ys))
          → Err x ≡ pick t (long m xs) (Err (record { why = BytesFull; at = p.start })) → Err x ≡ pick t (long m (xs ++ ys)) (Err (record { why = BytesFull; at = p.start }))
      by-test true more e = more e
      by-test false more e = e

  adds-append : (n k : ℕ) (xs ys : List Spanned) → Ok k ≡ long n xs → adds n (xs ++ ys) ≡ adds n xs ++ adds k ys
  unfolding length_by added_by
  adds-append n k [] ys e = rw (ok-same k n e)
  adds-append n k (p ∷ xs) ys e = by-test (leb (n + length (added glue n (bytes_of bytes p))) room) (adds-append (n + length (added glue n (bytes_of bytes p))) k xs ys) e
    where
      by-test : (t : Bool) → let s = added glue n (bytes_of bytes p) in (Ok k ≡ long (n + length s) xs → adds (n + length s) (xs ++ ys) ≡ adds (n + length s) xs ++ adds k ys)
          → Ok k ≡ pick t (long (n + length s) xs) (Err (record { why = BytesFull; at = p.start })) → s ++ adds (n + length s) (xs ++ ys) ≡ (s ++ adds (n + length s) xs) ++ adds k ys
      by-test true more e = rw (more e) (sym (append_assoc (added glue n (bytes_of bytes p)) _ _))
      by-test false more e = absurd (err-ok _ k (sym e))

  adds-length : (n k : ℕ) (xs : List Spanned) → n ≤ room → Ok k ≡ long n xs → (k ≡ n + length (adds n xs)) × (k ≤ room)
  unfolding length_by added_by
  adds-length n k [] h e = (omega (arith, ok-same k n e), omega (arith, ok-same k n e, h))
  adds-length n k (p ∷ xs) h e = by-test (leb (n + length (added glue n (bytes_of bytes p))) room) refl (adds-length (n + length (added glue n (bytes_of bytes p))) k xs) e
    where
      by-test : (t : Bool) → let s = added glue n (bytes_of bytes p) in leb (n + length s) room ≡ t
          → (n + length s ≤ room → Ok k ≡ long (n + length s) xs → (k ≡ n + length s + length (adds (n + length s) xs)) × (k ≤ room))
          → Ok k ≡ pick t (long (n + length s) xs) (Err (record { why = BytesFull; at = p.start })) → (k ≡ n + length (s ++ adds (n + length s) xs)) × (k ≤ room)
      by-test true w more e =
          let s = added glue n (bytes_of bytes p) in
          let m = more (leb-true (n + length s) room w) e in
          (omega (arith, m.0, length-append s (adds (n + length s) xs)), m.1)
      by-test false w more e = absurd (err-ok _ k (sym e))

  -- ---- a loop over pieces: what is put, with those to come, is the whole
  pub record Putting {S : Type 0} (fits : S → ℕ → Type 0) (took : S → List ℕ → S → Type 0) (n₀ : ℕ) (all : List Spanned) (to₀ : S) (n : ℕ) (to : S) (rest : List Spanned) : Type 0 where
    pub within : n ≤ room
    pub fit : fits to (room - n)
    pub done : List ℕ
    pub put : took to₀ done to
    pub whole : long n₀ all ≡ long n rest
    pub text : adds n₀ all ≡ done ++ adds n rest

  module _ {S : Type 0} {fits : S → ℕ → Type 0} {took : S → List ℕ → S → Type 0} (l : SinkLaws fits took) where
    pub putting_start : (n : ℕ) (all : List Spanned) (to : S) → n ≤ room → fits to (room - n) → Putting fits took n all to n to all
    putting_start n all to h f = record { within = h; fit = f; done = []; put = l.none to; whole = refl; text = refl }

    module _ (n₀ : ℕ) (all : List Spanned) (to₀ : S) (n : ℕ) (to : S) (rest : List Spanned) (g : Putting fits took n₀ all to₀ n to rest) where
      pub putting_end : rest ≡ [] → (◌≡◌ {A = Result ℕ Refused} (Ok n) (long n₀ all)) × took to₀ (adds n₀ all) to
      unfolding length_by added_by
      putting_end e =
          let w : long n₀ all ≡ Ok n = g.whole ∙ rw e in
          let t : adds n₀ all ≡ g.done = g.text ∙ rw e (append-nil g.done) in
          (sym w, subst (λ (x : List ℕ). took to₀ x to) (sym t) g.put)

      module _ (xs ys : List Spanned) (e : rest ≡ xs ++ ys) where
        pub putting_stops : (x : Refused) → Err x ≡ long n xs → Err x ≡ long n₀ all
        putting_stops x q = long-stops n x xs ys q ∙ sym (g.whole ∙ rw e)

        pub putting_some : (k : ℕ) → Ok k ≡ long n xs → (to' : S) → took to (adds n xs) to' → Putting fits took n₀ all to₀ k to' ys
        putting_some k q to' p =
            let z = adds-length n k xs g.within q in
            let r : room - n ≡ length (adds n xs) + (room - k) = omega (arith, z.0, z.1) in record {
              within = z.1;
              fit = l.left to to' (adds n xs) (room - k) p (subst (fits to) r g.fit);
              done = g.done ++ adds n xs;
              put = l.more to₀ to to' g.done (adds n xs) g.put p;
              whole = g.whole ∙ rw e (long-append n k xs ys q);
              text = g.text ∙ rw e (ap (λ (t : List ℕ). g.done ++ t) (adds-append n k xs ys q) ∙ sym (append_assoc g.done (adds n xs) (adds k ys)));
            }

-- ---- pieces in their order
spanned-drop : (j n : ℕ) (ws : List ℕ) → drop j (spanned n ws) ≡ spanned (n - j) (drop (j * 2) ws)
unfolding spanned
spanned-drop zero n ws = rw sub-zero
spanned-drop (suc j) zero ws = rw zero-sub
spanned-drop (suc j) (suc n) ws =
    let e : 2 + j * 2 ≡ suc j * 2 = omega arith in
    spanned-drop j n (drop 2 ws) ∙ rw (suc-sub-suc n j, drop-drop (j * 2) 2 ws, e)

-- those from the j-th up to `past`, as far as there are any
module _ (ws : List ℕ) (n past : ℕ) where
  abbrev pub from : ℕ → List Spanned
  from j = take (past - j) (drop j (spanned n ws))

  module _ (least : ℕ) (q : least ≡ min past n) (j : ℕ) where
    pub from_next : j < least → (p : Spanned) → p ≡ piece_in (drop (j * 2) ws) → from j ≡ (p ∷ []) ++ from (j + 1)
    unfolding spanned
    from_next h p r =
        let e : n - j ≡ suc (n - (j + 1)) = omega (arith, h, q) in
        let d : past - j ≡ suc (past - (j + 1)) = omega (arith, h, q) in
        let f : j * 2 + 2 ≡ (j + 1) * 2 = omega arith in
        rw (spanned-drop j n ws, spanned-drop (j + 1) n ws, e, d, drop-drop 2 (j * 2) ws, f, r)

    pub from_end : least ≤ j → from j ≡ []
    unfolding spanned
    from_end h = by-test (ltb past n) refl
      where
        by-test : (t : Bool) → ltb past n ≡ t → from j ≡ []
        by-test true w = let e : past - j ≡ 0 = omega (arith, h, q, ltb-true past n w) in rw e
        by-test false w = let e : n - j ≡ 0 = omega (arith, h, q, ltb-false past n w) in rw (spanned-drop j n ws, e, take-nil (past - j))

-- ---- elements in their order
module _ (ps : List Spanned) (es : List ℕ) (n : ℕ) where
  abbrev pub behind : ℕ → List Spanned
  behind i = pieces_of ps (listed (n - i) (drop (i * 5) es))

  pub behind-all : pieces_of ps (listed n es) ≡ behind 0
  behind-all = let e : n - 0 ≡ n = omega arith in rw e

  pub behind-next : (i : ℕ) → i < n → (x : Listed) → x ≡ element_in (drop (i * 5) es) → behind i ≡ own ps x ++ behind (i + 1)
  unfolding pieces_of
  behind-next i h x q = rw (listed_next es n i h, q)

  pub behind-end : (i : ℕ) → n ≤ i → behind i ≡ []
  unfolding pieces_of
  behind-end i h = rw (listed-end es n i h)
