-- A separator: the head row's cells realigned, and the row dropped. Assumes nothing.
use mathlib.Core.Path.{◌≡◌, refl, sym, ap, subst, ◌∙◌}
use mathlib.Core.Bool.{Bool, true, false}
use mathlib.Core.List.{List, []}
use Prim.Native.Nat.{ℕ, zero, suc, ◌+◌, ◌-◌, ◌≤◌, ◌<◌}
use native.Mathlib.Omega.{arith}
use lib.Dec.{leb}
use lib.ListN.{length, take, get_or, set, length-set}
use lib.Seq.{length-take-le, get_or-set_same, get_or-set_other, set-get_or}
use borrow.Author.Tests.{eq-eqb, ne_eqb, leb-true, leb-false}
use borrow.Author.Count.{below_more}
use Rattle.events.specs.State.{State, with_evs}
use Rattle.events.specs.Events.{patch_of, cut_of}
use Rattle.events.specs.View.{view}
use Rattle.events.specs.declared.St.{St}
use Rattle.walk.specs.Table.{Rows, rows, cell_at, align_at, cell_word, align_cells, head_of, separate_of}
use Rattle.cells.specs.Held.{sep_of, Ends, Aligned, Stands, Held}
use Rattle.cells.specs.declared.Align.{Align}
use Rattle.cells.proofs.CellLaws.{beyond, stands_at, stands-past}
use Rattle.cells.proofs.HeldLaws.{aligned-none}

-- ---- the cells, realigned in lockstep with the separator's text
pub align-start : (sep : List ℕ) (r n : ℕ) (s : State) → align_cells sep r 0 (n - 0) s ≡ align_cells sep r 0 n s
align-start sep r n s = let z : n - 0 ≡ n = omega arith in rw z refl

align-step : (sep : List ℕ) (r i m : ℕ) (a : State)
    → align_cells sep r i (suc m) a ≡ align_cells sep r (i + 1) m (patch_of (cell_word r i + 20) (align_at sep i) (patch_of (cell_word r i + 4) (align_at sep i) a))
unfolding align_cells
align-step sep r i m a = refl

pub align-turn : (sep : List ℕ) (r n i v : ℕ) (a b c : State) → i < n → v ≡ align_at sep i
    → b ≡ patch_of (cell_word r i + 4) v a → c ≡ patch_of (cell_word r i + 20) v b
    → align_cells sep r i (n - i) a ≡ align_cells sep r (i + 1) (n - (i + 1)) c
align-turn sep r n i v a b c h p x y =
    let z : n - i ≡ suc (n - (i + 1)) = omega arith in
    ap (λ (m : ℕ). align_cells sep r i m a) z
    ∙ align-step sep r i (n - (i + 1)) a
    ∙ ap (λ (u : ℕ). align_cells sep r (i + 1) (n - (i + 1)) (patch_of (cell_word r i + 20) u (patch_of (cell_word r i + 4) u a))) (sym p)
    ∙ ap (λ (u : State). align_cells sep r (i + 1) (n - (i + 1)) (patch_of (cell_word r i + 20) v u)) (sym x)
    ∙ ap (λ (u : State). align_cells sep r (i + 1) (n - (i + 1)) u) (sym y)

pub align-end : (sep : List ℕ) (r n i : ℕ) (s : State) → n ≤ i → align_cells sep r i (n - i) s ≡ s
unfolding align_cells
align-end sep r n i s h = let z : n - i ≡ 0 = omega arith in rw z

-- ---- cells that have their alignments already are left
abbrev Has : List ℕ → ℕ → ℕ → ℕ → List ℕ → Type 0
Has sep r a b evs = (j : ℕ) → a ≤ j → j < b → (get_or evs (cell_word r j + 4) 0 ≡ align_at sep j) × (get_or evs (cell_word r j + 20) 0 ≡ align_at sep j)

patch-same : (w v : ℕ) (s : State) → get_or s.evs w 0 ≡ v → patch_of w v s ≡ s
unfolding patch_of
patch-same w v s e = ap (λ (x : List ℕ). with_evs x s) (ap (λ (y : ℕ). set s.evs w y) (sym e) ∙ set-get_or s.evs w 0)

align-none : (sep : List ℕ) (r i n : ℕ) (s : State) → Has sep r i (i + n) s.evs → align_cells sep r i n s ≡ s
unfolding align_cells
align-none sep r i zero s h = refl
align-none sep r i (suc n) s h =
    let e = h i (omega arith) (omega arith) in
    rw (patch-same (cell_word r i + 4) (align_at sep i) s e.0, patch-same (cell_word r i + 20) (align_at sep i) s e.1)
    (align-none sep r (i + 1) n s (λ j a b. h j (omega arith) (omega arith)))

patched-words : (w x v : ℕ) (s : State) → (patch_of x v (patch_of w v s)).evs ≡ set (set s.evs w v) x v
unfolding patch_of
patched-words w x v s = refl

has-patch : (sep : List ℕ) (r a b i v : ℕ) (s : State) → i < a → Has sep r a b s.evs → Has sep r a b (patch_of (cell_word r i + 20) v (patch_of (cell_word r i + 4) v s)).evs
has-patch sep r a b i v s g h j p q =
    let e = h j p q in
    rw (patched-words (cell_word r i + 4) (cell_word r i + 20) v s) (
      get_or-set_other (set s.evs (cell_word r i + 4) v) (cell_word r i + 20) (cell_word r j + 4) v 0 (λ z. (let w : ⊥ = omega arith in w))
          ∙ get_or-set_other s.evs (cell_word r i + 4) (cell_word r j + 4) v 0 (λ z. (let w : ⊥ = omega arith in w)) ∙ e.0,
      get_or-set_other (set s.evs (cell_word r i + 4) v) (cell_word r i + 20) (cell_word r j + 20) v 0 (λ z. (let w : ⊥ = omega arith in w))
          ∙ get_or-set_other s.evs (cell_word r i + 4) (cell_word r j + 20) v 0 (λ z. (let w : ⊥ = omega arith in w)) ∙ e.1,
    )

align-less : (sep : List ℕ) (r i m k : ℕ) (s : State) → Has sep r (i + m) (i + m + k) s.evs → align_cells sep r i (m + k) s ≡ align_cells sep r i m s
unfolding align_cells
align-less sep r i zero k s h =
    let z : 0 + k ≡ k = omega arith in
    rw z (align-none sep r i k s (λ j a b. h j (omega arith) (omega arith)))
align-less sep r i (suc m) k s h =
    let z : suc m + k ≡ suc (m + k) = omega arith in
    rw z (align-less sep r (i + 1) m k (patch_of (cell_word r i + 20) (align_at sep i) (patch_of (cell_word r i + 4) (align_at sep i) s))
    (has-patch sep r (i + 1 + m) (i + 1 + m + k) i (align_at sep i) s (omega arith) (λ j a b. h j (omega arith) (omega arith))))

align-reach : (sep : List ℕ) (r m n : ℕ) (s : State) → m ≤ n → Has sep r m n s.evs → align_cells sep r 0 n s ≡ align_cells sep r 0 m s
align-reach sep r m n s h g =
    let z : m + (n - m) ≡ n = omega arith in
    ap (λ (x : ℕ). align_cells sep r 0 x s) (sym z) ∙ align-less sep r 0 m (n - m) s (λ j a b. g j (omega arith) (omega arith))

-- ---- the head row's cells have the separator's alignments
aligned-set : (sep : List ℕ) (r n : ℕ) (evs : List ℕ) (o v : ℕ) → ((j : ℕ) → j < n → (cell_word r j + 4 ≡ o → ⊥) × (cell_word r j + 20 ≡ o → ⊥)) → Aligned sep r n evs → Aligned sep r n (set evs o v)
aligned-set sep r n evs o v ne c j h =
    let l : length (set evs o v) ≡ length evs = length-set evs o v in
    let b = (c j h).0 in
    (omega arith, get_or-set_other evs o (cell_word r j + 4) v 0 (ne j h).0 ∙ (c j h).1, get_or-set_other evs o (cell_word r j + 20) v 0 (ne j h).1 ∙ (c j h).2)

aligned-patch : (sep : List ℕ) (r i : ℕ) (evs : List ℕ) (v : ℕ) → cell_word r (i + 1) ≤ length evs → v ≡ align_at sep i → Aligned sep r i evs
    → Aligned sep r (i + 1) (set (set evs (cell_word r i + 4) v) (cell_word r i + 20) v)
aligned-patch sep r i evs v h q c =
    let f : List ℕ = set (set evs (cell_word r i + 4) v) (cell_word r i + 20) v in
    let g : length (set evs (cell_word r i + 4) v) ≡ length evs = length-set evs (cell_word r i + 4) v in
    let l : length f ≡ length evs = length-set (set evs (cell_word r i + 4) v) (cell_word r i + 20) v ∙ g in
    let ne : cell_word r i + 4 ≡ cell_word r i + 20 → ⊥ = λ z. (let w : ⊥ = omega arith in w) in
    let here : (cell_word r i + 24 ≤ length f) × (get_or f (cell_word r i + 4) 0 ≡ align_at sep i) × (get_or f (cell_word r i + 20) 0 ≡ align_at sep i) = (
      omega arith,
      get_or-set_other (set evs (cell_word r i + 4) v) (cell_word r i + 20) (cell_word r i + 4) v 0 ne ∙ get_or-set_same evs (cell_word r i + 4) v 0 (omega arith) ∙ q,
      get_or-set_same (set evs (cell_word r i + 4) v) (cell_word r i + 20) v 0 (omega arith) ∙ q,
    ) in
    below_more (λ j. (cell_word r j + 24 ≤ length f) × (get_or f (cell_word r j + 4) 0 ≡ align_at sep j) × (get_or f (cell_word r j + 20) 0 ≡ align_at sep j)) i
    (aligned-set sep r i (set evs (cell_word r i + 4) v) (cell_word r i + 20) v (λ j g. ((λ z. (let w : ⊥ = omega arith in w)), λ z. (let w : ⊥ = omega arith in w)))
    (aligned-set sep r i evs (cell_word r i + 4) v (λ j g. ((λ z. (let w : ⊥ = omega arith in w)), λ z. (let w : ⊥ = omega arith in w))) c))
    here

aligned : (sep : List ℕ) (r i n : ℕ) (s : State) → cell_word r (i + n) ≤ length s.evs → Aligned sep r i s.evs → Aligned sep r (i + n) (align_cells sep r i n s).evs
unfolding align_cells patch_of
aligned sep r i zero s h c = let z : i + 0 ≡ i = omega arith in rw z c
aligned sep r i (suc n) s h c =
    let z : i + suc n ≡ i + 1 + n = omega arith in
    let l = length-set (set s.evs (cell_word r i + 4) (align_at sep i)) (cell_word r i + 20) (align_at sep i) ∙ length-set s.evs (cell_word r i + 4) (align_at sep i) in
    rw z (aligned sep r (i + 1) n (patch_of (cell_word r i + 20) (align_at sep i) (patch_of (cell_word r i + 4) (align_at sep i) s)) (omega arith) (aligned-patch sep r i s.evs (align_at sep i) (omega arith) refl c))

head-aligned : (sep : List ℕ) (r n : ℕ) (s : State) → cell_word r n ≤ length s.evs → Aligned sep r n (head_of sep r n s).evs
unfolding head_of patch_of
head-aligned sep r n s h =
    let z : 0 + n ≡ n = omega arith in
    let t : Aligned sep r n (align_cells sep r 0 n s).evs =
    subst (λ (m : ℕ). Aligned sep r m (align_cells sep r 0 n s).evs) z (aligned sep r 0 n s (omega arith) (aligned-none sep r s.evs)) in
    aligned-set sep r n (set (align_cells sep r 0 n s).evs (r + 4) 1) (cell_word r n + 4) 1 (λ j g. ((λ z. (let w : ⊥ = omega arith in w)), λ z. (let w : ⊥ = omega arith in w)))
    (aligned-set sep r n (align_cells sep r 0 n s).evs (r + 4) 1 (λ j g. ((λ z. (let w : ⊥ = omega arith in w)), λ z. (let w : ⊥ = omega arith in w))) t)

-- the row becomes a head: m cells were realigned, the others have no alignment before and after
pub headed : (sep : List ℕ) (r n m c : ℕ) (s x y z : State) → m ≤ n → (m < n → c ≤ m) → Ends sep c
    → ((j : ℕ) → m ≤ j → j < n → (get_or s.evs (cell_word r j + 4) 0 ≡ 0) × (get_or s.evs (cell_word r j + 20) 0 ≡ 0))
    → x ≡ align_cells sep r 0 m s → y ≡ patch_of (r + 4) 1 x → z ≡ patch_of (cell_word r n + 4) 1 y → z ≡ head_of sep r n s
unfolding head_of
headed sep r n m c s x y z h g e f p q o =
    o
    ∙ ap (λ (u : State). patch_of (cell_word r n + 4) 1 u) (q
    ∙ ap (λ (u : State). patch_of (r + 4) 1 u) (p
    ∙ sym (align-reach sep r m n s h (λ j a b. (let w = beyond sep c j e (omega (arith, g (omega arith))) in ((f j a b).0 ∙ sym w, (f j a b).1 ∙ sym w))))))

-- the cursor after m of its n cells
pub head-stands : (sep : List ℕ) (cur n m c : ℕ) → m ≤ n → (m < n → c ≤ m) → Ends sep c → cur ≡ cell_at sep m → Stands sep cur n
head-stands sep cur n m c h g e p = by-test (leb n m) refl
  where
    by-test : (b : Bool) → leb n m ≡ b → Stands sep cur n
    by-test true t = let w : m ≡ n = omega (arith, leb-true n m t) in stands_at sep cur n (p ∙ ap (λ (x : ℕ). cell_at sep x) w)
    by-test false t = let w = leb-false n m t in stands-past sep cur c m n e (g w) (omega (arith, g w)) p

abbrev pub head_align : Align → ℕ → ℕ → ℕ → Align
head_align al r n cur = record { s = al.s; e = al.e; cells = al.cells; row = r; wide = n; col = n; cur = cur }

pub head-words : (sep : List ℕ) (r n : ℕ) (st : St) (ev ev' : List ℕ) → st.words ≤ length ev → cell_word r n ≤ st.words
    → ((k l v : List ℕ) → view st ev' k l v ≡ head_of sep r n (view st ev k l v)) → Aligned sep r n (take st.words ev')
head-words sep r n st ev ev' h g p =
    let q : length (take st.words ev) ≡ st.words = length-take-le st.words ev h in
    let w : take st.words ev' ≡ (head_of sep r n (view st ev [] [] [])).evs = ap (λ (x : State). x.evs) (p [] [] []) in
    rw w (head-aligned sep r n (view st ev [] [] []) (omega arith))

pub head-held : (text : List ℕ) (al : Align) (r n cur : ℕ) (evs : List ℕ) → Stands (sep_of text al) cur n → Aligned (sep_of text al) r n evs → Held text 0 (head_align al r n cur) evs
head-held text al r n cur evs s c = record {
  place = record { stands = s; low = λ g. refl; high = λ g. omega arith };
  cells = c;
}

-- ---- the separator row, dropped
module _ (sep : List ℕ) (here : ℕ) (r : Rows) (a : State) (p : a ≡ cut_of here r.st) where
  pub drop-first : r.last ≡ 0 → rows a sep 0 0 ≡ separate_of sep here r
  unfolding separate_of
  drop-first z = sym (rw (eq-eqb r.last 0 z, ← p))

  pub drop-after : (r.last ≡ 0 → ⊥) → (b : State) → b ≡ head_of sep (r.last - 1) r.count a → rows b sep r.last r.count ≡ separate_of sep here r
  unfolding separate_of
  drop-after z b q = sym (rw (ne_eqb r.last 0 z, ← p, ← q))
