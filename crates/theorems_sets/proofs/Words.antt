-- What is given stands in the words that the reader leaves, in order. Assumes nothing.
use Prim.Native.Nat.{ℕ, zero, suc, ◌+◌, ◌-◌, ◌*◌, ◌/◌}
use mathlib.Core.Path.{◌≡◌, refl, sym, ap, ◌∙◌}
use mathlib.Core.Bool.{Bool, true, false}
use mathlib.Core.List.{List, [], ◌∷◌, ◌++◌, append-nil, append_assoc}
use native.Mathlib.Omega.{arith}
use lib.Dec.{eqb, leb}
use lib.ListN.{length, set, replicate, length-append, length-set}
use borrow.Author.Tests.{eqb-true, eqb-false, eq-eqb, ne_eqb}
use Rattle.classes.specs.Choice.{pick}
use Rattle.sets.specs.Given.{kind_num, Given, Element, Piece, Told, told, Verdict, Good, Bad, given_of, verdict_of}
use Rattle.trim.specs.Trim.{trim_end}
use Rattle.sets.specs.Opened.{Held, held, full, pieces_in as pieces_held, hold_in, hold_all, up_to, Outcome, judged, refused_as, finish, open_of}
use Rattle.theorems_sets.proofs.Rooms.{elements-append}
use Rattle.theorems_sets.specs.Sets.{elements_in, piece_words, head_words, heads_of}

-- once something had no room, nothing more is held
stopped : (ne np : ℕ) (ts : List Told) (h : Held) → (h.number ≡ 0 → ⊥) → hold_all ne np ts h ≡ h
unfolding hold_all
stopped ne np [] h n = refl
stopped ne np (t ∷ ts) h n = rw (ne_eqb h.number 0 n)

accepted : (ne np : ℕ) (ts : List Told) (h : Held) → (hold_all ne np ts h).number ≡ 0 → h.number ≡ 0
accepted ne np ts h e = by-test (eqb h.number 0) refl
  where
    by-test : (b : Bool) → eqb h.number 0 ≡ b → h.number ≡ 0
    by-test true p = eqb-true h.number 0 p
    by-test false p = sym (ap (λ (x : Held). x.number) (stopped ne np ts h (eqb-false h.number 0 p))) ∙ e

-- the heads of elements (kind, key span) are not touched by a piece
heads-append : (n : ℕ) (es fs : List ℕ) → length es ≡ n * 5 → heads_of (suc n) (es ++ fs) ≡ heads_of n es ++ heads_of 1 fs
unfolding heads_of
heads-append zero [] fs l = refl
heads-append zero (x ∷ es) fs l = absurd (omega (arith, l))
heads-append (suc n) (a ∷ b ∷ c ∷ d ∷ e ∷ es) fs l = rw (heads-append n es fs (omega (arith, l)))
heads-append (suc n) [] fs l = absurd (omega (arith, l))
heads-append (suc n) (a ∷ []) fs l = absurd (omega (arith, l))
heads-append (suc n) (a ∷ b ∷ []) fs l = absurd (omega (arith, l))
heads-append (suc n) (a ∷ b ∷ c ∷ []) fs l = absurd (omega (arith, l))
heads-append (suc n) (a ∷ b ∷ c ∷ d ∷ []) fs l = absurd (omega (arith, l))

heads-set : (n : ℕ) (es : List ℕ) (m : ℕ) → length es ≡ n * 5 → heads_of n (set es (n * 5 - 1) m) ≡ heads_of n es
unfolding heads_of
heads-set zero es m l = refl
heads-set (suc zero) (a ∷ b ∷ c ∷ d ∷ e ∷ es) m l = refl
heads-set (suc (suc n)) (a ∷ b ∷ c ∷ d ∷ e ∷ es) m l =
    let i : suc (suc n) * 5 - 1 ≡ suc (suc (suc (suc (suc (suc n * 5 - 1))))) = omega arith in
    rw (i, heads-set (suc n) es m (omega (arith, l)))
heads-set (suc n) [] m l = absurd (omega (arith, l))
heads-set (suc n) (a ∷ []) m l = absurd (omega (arith, l))
heads-set (suc n) (a ∷ b ∷ []) m l = absurd (omega (arith, l))
heads-set (suc n) (a ∷ b ∷ c ∷ []) m l = absurd (omega (arith, l))
heads-set (suc n) (a ∷ b ∷ c ∷ d ∷ []) m l = absurd (omega (arith, l))

element-heads : (n : ℕ) (es : List ℕ) (k a e f : ℕ) → length es ≡ n * 5 → heads_of (n + 1) (es ++ (k ∷ a ∷ e ∷ f ∷ f ∷ [])) ≡ heads_of n es ++ (k ∷ a ∷ e ∷ [])
unfolding heads_of
element-heads n es k a e f l = let i : n + 1 ≡ suc n = omega arith in rw i (heads-append n es (k ∷ a ∷ e ∷ f ∷ f ∷ []) l)

piece-heads : (n : ℕ) (es : List ℕ) (m : ℕ) → length es ≡ n * 5 → heads_of (n + 0) (up_to m es) ≡ heads_of n es ++ []
piece-heads n es m l = let i : n + 0 ≡ n = omega arith in rw (i, l, append-nil (heads_of n es)) (heads-set n es m l)

-- one thing more that has room
module _ (ne np at n : ℕ) where
  held-step : (g : Given) (h : Held) → length h.elements ≡ n * 5 → (hold_in ne np at g h).number ≡ 0
      → ((hold_in ne np at g h).pieces ≡ h.pieces ++ piece_words (told at g ∷ [])) × (length (hold_in ne np at g h).elements ≡ (n + elements_in (told at g ∷ [])) * 5)
      × (heads_of (n + elements_in (told at g ∷ [])) (hold_in ne np at g h).elements ≡ heads_of n h.elements ++ head_words (told at g ∷ []))
  unfolding piece_words head_words elements_in
  held-step (Element k a e) h l = by-test (leb (length h.elements + 5) ne)
    where
      by-test : (b : Bool) → (pick b (held (h.elements ++ (kind_num k ∷ a ∷ e ∷ pieces_held h ∷ pieces_held h ∷ [])) h.pieces) (full at h)).number ≡ 0
          → ((pick b (held (h.elements ++ (kind_num k ∷ a ∷ e ∷ pieces_held h ∷ pieces_held h ∷ [])) h.pieces) (full at h)).pieces ≡ h.pieces ++ [])
          × (length (pick b (held (h.elements ++ (kind_num k ∷ a ∷ e ∷ pieces_held h ∷ pieces_held h ∷ [])) h.pieces) (full at h)).elements ≡ (n + (1 + 0)) * 5)
          × (heads_of (n + (1 + 0)) (pick b (held (h.elements ++ (kind_num k ∷ a ∷ e ∷ pieces_held h ∷ pieces_held h ∷ [])) h.pieces) (full at h)).elements ≡ heads_of n h.elements ++ (kind_num k ∷ a ∷ e ∷ [] ++ []))
      by-test true z = (sym (append-nil h.pieces), length-append h.elements _ ∙ omega (arith, l), element-heads n h.elements (kind_num k) a e (pieces_held h) l)
      by-test false z = absurd (omega (arith, z))
  held-step (Piece a e) h l = by-test (leb (length h.pieces + 2) np)
    where
      by-test : (b : Bool) → (pick b (held (up_to (pieces_held h + 1) h.elements) (h.pieces ++ (a ∷ e ∷ []))) (full at h)).number ≡ 0
          → ((pick b (held (up_to (pieces_held h + 1) h.elements) (h.pieces ++ (a ∷ e ∷ []))) (full at h)).pieces ≡ h.pieces ++ (a ∷ e ∷ [] ++ []))
          × (length (pick b (held (up_to (pieces_held h + 1) h.elements) (h.pieces ++ (a ∷ e ∷ []))) (full at h)).elements ≡ (n + (0 + 0)) * 5)
          × (heads_of (n + (0 + 0)) (pick b (held (up_to (pieces_held h + 1) h.elements) (h.pieces ++ (a ∷ e ∷ []))) (full at h)).elements ≡ heads_of n h.elements ++ [])
      by-test true z = (refl, length-set h.elements _ _ ∙ omega (arith, l), piece-heads n h.elements (pieces_held h + 1) l)
      by-test false z = absurd (omega (arith, z))

piece-cons : (p : ℕ) (g : Given) (ts : List Told) → piece_words (told p g ∷ ts) ≡ piece_words (told p g ∷ []) ++ piece_words ts
unfolding piece_words
piece-cons p (Element k a e) ts = refl
piece-cons p (Piece a e) ts = refl

head-cons : (p : ℕ) (g : Given) (ts : List Told) → head_words (told p g ∷ ts) ≡ head_words (told p g ∷ []) ++ head_words ts
unfolding head_words
head-cons p (Element k a e) ts = refl
head-cons p (Piece a e) ts = refl

none-given : (n : ℕ) (ps es : List ℕ) → length es ≡ n * 5
    → (ps ≡ ps ++ piece_words []) × (heads_of (n + elements_in []) es ≡ heads_of n es ++ head_words []) × (length es ≡ (n + elements_in []) * 5)
unfolding piece_words head_words elements_in
none-given n ps es l = let i : n + 0 ≡ n = omega arith in (sym (append-nil ps), rw i (sym (append-nil (heads_of n es))), omega (arith, l))

-- all that is given, if all of it has room
pub held-words : (ne np : ℕ) (ts : List Told) (h : Held) (n : ℕ) → h.number ≡ 0 → length h.elements ≡ n * 5 → (hold_all ne np ts h).number ≡ 0
    → ((hold_all ne np ts h).pieces ≡ h.pieces ++ piece_words ts) × (heads_of (n + elements_in ts) (hold_all ne np ts h).elements ≡ heads_of n h.elements ++ head_words ts)
    × (length (hold_all ne np ts h).elements ≡ (n + elements_in ts) * 5)
unfolding hold_all
held-words ne np [] h n z l e = none-given n h.pieces h.elements l
held-words ne np (t ∷ ts) h n z l e =
    rw (eq-eqb h.number 0 z)
    (let g = hold_in ne np t.place t.what h in
    let r : (hold_all ne np ts g).number ≡ 0 = ap (λ (b : Bool). (pick b (hold_all ne np ts g) h).number) (sym (eq-eqb h.number 0 z)) ∙ e in
    let y : g.number ≡ 0 = accepted ne np ts g r in
    let s = held-step ne np t.place n t.what h l y in
    let w = held-words ne np ts g (n + elements_in (t ∷ [])) y s.1 r in
    let i : n + elements_in (t ∷ ts) ≡ n + elements_in (t ∷ []) + elements_in ts = omega (arith, elements-append (t ∷ []) ts) in (
      w.0 ∙ ap (λ (ps : List ℕ). ps ++ piece_words ts) s.0 ∙ append_assoc h.pieces (piece_words (t ∷ [])) (piece_words ts) ∙ ap (λ (ps : List ℕ). h.pieces ++ ps) (sym (piece-cons t.place t.what ts)),
      ap (λ (k : ℕ). heads_of k (hold_all ne np ts g).elements) i ∙ w.1 ∙ ap (λ (es : List ℕ). es ++ head_words ts) s.2
          ∙ append_assoc (heads_of n h.elements) (head_words (t ∷ [])) (head_words ts) ∙ ap (λ (es : List ℕ). heads_of n h.elements ++ es) (sym (head-cons t.place t.what ts)),
      omega (arith, w.2, i),
    ))

-- ---- so in the words of a set that was opened stand its spans, which `in_order` speaks of
heads-front : (n : ℕ) (es zs : List ℕ) → length es ≡ n * 5 → heads_of n (es ++ zs) ≡ heads_of n es
unfolding heads_of
heads-front zero es zs l = refl
heads-front (suc n) (a ∷ b ∷ c ∷ d ∷ e ∷ es) zs l = rw (heads-front n es zs (omega (arith, l)))
heads-front (suc n) [] zs l = absurd (omega (arith, l))
heads-front (suc n) (a ∷ []) zs l = absurd (omega (arith, l))
heads-front (suc n) (a ∷ b ∷ []) zs l = absurd (omega (arith, l))
heads-front (suc n) (a ∷ b ∷ c ∷ []) zs l = absurd (omega (arith, l))
heads-front (suc n) (a ∷ b ∷ c ∷ d ∷ []) zs l = absurd (omega (arith, l))

abbrev Stands : Outcome → ℕ → List Told → Type 0
Stands o np ts = (o.pieces ≡ piece_words ts ++ replicate (np - length (piece_words ts)) 0) × (heads_of o.answer.count o.elements ≡ head_words ts)

told-good : (ne np : ℕ) (ts : List Told) → (let h = hold_all ne np ts (held [] []) in h.number ≡ 0
    → (h.pieces ++ replicate (np - length h.pieces) 0 ≡ piece_words ts ++ replicate (np - length (piece_words ts)) 0)
    × (heads_of (length h.elements / 5) (h.elements ++ replicate (ne - length h.elements) 0) ≡ head_words ts))
unfolding heads_of
told-good ne np ts z =
    let h = hold_all ne np ts (held [] []) in
    let w = held-words ne np ts (held [] []) 0 refl refl z in
    let k : length h.elements / 5 ≡ 0 + elements_in ts = omega (arith, w.2) in (
      rw w.0,
      ap (λ (n : ℕ). heads_of n (h.elements ++ replicate (ne - length h.elements) 0)) k ∙ heads-front (0 + elements_in ts) h.elements _ w.2 ∙ w.1,
    )

finished : (ne np len : ℕ) (ts : List Told) (v : Verdict) → (finish ne np len (hold_all ne np ts (held [] [])) v).answer.number ≡ 0 → Stands (finish ne np len (hold_all ne np ts (held [] [])) v) np ts
unfolding finish
finished ne np len ts v = by-test (eqb (hold_all ne np ts (held [] [])).number 0) refl v
  where
    by-test : (t : Bool) → eqb (hold_all ne np ts (held [] [])).number 0 ≡ t → (v : Verdict)
        → (pick t (judged ne np len (hold_all ne np ts (held [] [])) v) (refused_as ne np (hold_all ne np ts (held [] [])).number (hold_all ne np ts (held [] [])).place)).answer.number ≡ 0
        → Stands (pick t (judged ne np len (hold_all ne np ts (held [] [])) v) (refused_as ne np (hold_all ne np ts (held [] [])).number (hold_all ne np ts (held [] [])).place)) np ts
    by-test true e Good n = told-good ne np ts (eqb-true (hold_all ne np ts (held [] [])).number 0 e)
    by-test true e (Bad p) n = absurd (omega (arith, n))
    by-test false e v n = absurd (eqb-false (hold_all ne np ts (held [] [])).number 0 e n)

pub opened-words : (bytes : List ℕ) (ne np : ℕ) → (open_of bytes ne np).answer.number ≡ 0 → Stands (open_of bytes ne np) np (given_of (trim_end bytes))
unfolding open_of
opened-words bytes ne np = finished ne np (length bytes) (given_of (trim_end bytes)) (verdict_of (trim_end bytes))
