-- The events that a state holds, and those that are open, after one more, an Enter, an Exit, a change of a word. Assumes nothing.
use mathlib.Core.Path.{◌≡◌, refl, sym, ap, ap₂, subst, ◌∙◌}
use mathlib.Core.List.{List, [], ◌∷◌, ◌++◌, append_assoc, append-nil}
use Prim.Native.Nat.{ℕ, suc, ◌+◌, ◌-◌, ◌*◌, ◌<◌}
use native.Mathlib.Omega.{arith}
use lib.Dec.{eqb, leb}
use lib.ListN.{length, get_or, take, set, length-append, get_or-append}
use lib.Seq.{get_or_at, take_at}
use borrow.Author.Tests.{ne_eqb}
use Rattle.classes.specs.Choice.{both}
use Rattle.events.specs.State.{State, with_evs, with_opn, refuse_of, go}
use Rattle.events.specs.Events.{width, words_of, push_of, patch_of, cut_of, enter_event, exit_event, enter_of, whole_at, close_of, exit_of}
use Rattle.events.specs.Pack.{pack_of}
use Rattle.events.specs.declared.Event.{Event}
use Rattle.events.specs.declared.Node.{Node}
use Rattle.events.proofs.PackLaws.{pack-length, pack-take, pack-more, pack-word}
use Rattle.events.proofs.PackEdits.{body_as, pack-body}
use Rattle.theorems.proofs.LevelSteps.{passed, chosen}
use Rattle.theorems.proofs.Nests.{Frame, flat, places, Holds}
use Rattle.theorems.proofs.WholeLaws.{closing}

-- ---- what is open
pub places_count : (fs : List Frame) → length (places fs) ≡ length fs
unfolding places
places_count [] = refl
places_count (f ∷ fs) = omega (arith, places_count fs, length-append (places fs) (width * length (flat fs ++ f.before) ∷ []))

pub holds-count : (fs : List Frame) (g : List Event) (s : State) → Holds fs g s → length s.opn ≡ length fs
holds-count fs g s h = ap (λ (l : List ℕ). length l) h.opn ∙ places_count fs

-- the words so far
pub holds-words : (fs : List Frame) (g : List Event) (s : State) → Holds fs g s → length s.evs ≡ width * length (flat fs ++ g)
holds-words fs g s h = ap (λ (l : List ℕ). length l) h.evs ∙ pack-length (flat fs ++ g)

-- frames further in come behind
flat_append : (us ds : List Frame) → flat (us ++ ds) ≡ flat ds ++ flat us
unfolding flat
flat_append [] ds = sym (append-nil (flat ds))
flat_append (u ∷ us) ds =
    let l = u.before ++ (u.enter ∷ []) in
    ap (λ (r : List Event). r ++ l) (flat_append us ds) ∙ append_assoc (flat ds) (flat us) l

-- the events around an Enter that is open
pub flat-at : (us : List Frame) (f : Frame) (ds : List Frame) (g : List Event) → flat (us ++ (f ∷ ds)) ++ g ≡ (flat ds ++ f.before) ++ (f.enter ∷ (flat us ++ g))
unfolding flat
flat-at us f ds g = ap (λ (r : List Event). r ++ g) (flat_append us (f ∷ ds)) ∙ simp append_assoc

pub opened-place : (us : List Frame) (f : Frame) (ds : List Frame) → get_or (places (us ++ (f ∷ ds))) (length ds) 0 ≡ width * length (flat ds ++ f.before)
unfolding places
opened-place [] f ds = get_or_at (places ds) (width * length (flat ds ++ f.before)) [] 0 (length ds) (places_count ds)
opened-place (u ∷ us) f ds =
    let l = places (us ++ (f ∷ ds)) in
    let h : length ds < length l = omega (arith, places_count (us ++ (f ∷ ds)), length-append us (f ∷ ds)) in
    get_or-append l (width * length (flat (us ++ (f ∷ ds)) ++ u.before) ∷ []) 0 (length ds) h ∙ opened-place us f ds

-- ---- one event more
pub push-is : (x : Event) (s : State) → (push_of x s).number ≡ 0 → push_of x s ≡ with_evs (s.evs ++ words_of x) s
unfolding push_of
push-is x s =
    let r = with_evs (s.evs ++ words_of x) s in
    chosen (leb (length s.evs + width) s.cap) r (refuse_of 6 s) (λ a. a ≡ r) (λ e z. refl) (λ e z. absurd (omega arith))

pub holds-push : (x : Event) (fs : List Frame) (g : List Event) (s : State) → Holds fs g s → (push_of x s).number ≡ 0 → Holds fs (g ++ (x ∷ [])) (push_of x s)
holds-push x fs g s h z = rw (push-is x s z) (record {
  evs = ap (λ (l : List ℕ). l ++ words_of x) h.evs ∙ sym (pack-more (flat fs ++ g) x) ∙ ap pack_of (append_assoc (flat fs) g (x ∷ []));
  opn = h.opn;
})

-- ---- an Enter
pub enter-is : (x : Node) (s : State) → (enter_of x s).number ≡ 0 → enter_of x s ≡ with_opn (s.opn ++ (length s.evs ∷ [])) (with_evs (s.evs ++ words_of (enter_event x)) s)
unfolding enter_of
enter-is x s =
    let a = push_of (enter_event x) s in
    let next : State → State = with_opn (s.opn ++ (length s.evs ∷ [])) in
    let P : State → Type 0 = λ r. r ≡ next (with_evs (s.evs ++ words_of (enter_event x)) s) in
    chosen (leb 128 (length s.opn)) (refuse_of 7 s) (go a next) P (λ e z. absurd (omega arith)) (λ e. passed a next P (λ za zb. ap next (push-is (enter_event x) s za)))

pub holds-enter : (x : Node) (fs : List Frame) (g : List Event) (s : State) → Holds fs g s → (enter_of x s).number ≡ 0
    → Holds ((record { before = g; enter = enter_event x }) ∷ fs) [] (enter_of x s)
unfolding flat places
holds-enter x fs g s h z =
    let e = enter_event x in
    let l = flat fs ++ (g ++ (e ∷ [])) in
    rw (enter-is x s z) (record {
      evs = ap (λ (w : List ℕ). w ++ words_of e) h.evs ∙ sym (pack-more (flat fs ++ g) e) ∙ ap pack_of (append_assoc (flat fs) g (e ∷ []) ∙ sym (append-nil l));
      opn = ap₂ (λ (l : List ℕ) (n : ℕ). l ++ (n ∷ [])) h.opn (holds-words fs g s h);
    })

-- ---- an Exit
pub close-is : (i j o : ℕ) (s : State) → (close_of i j o s).number ≡ 0
    → close_of i j o s ≡ with_opn (take (length s.opn - 1) s.opn) (with_evs (s.evs ++ words_of (exit_event s.evs o i j)) s)
unfolding close_of
close-is i j o s =
    let x = exit_event s.evs o i j in
    let next : State → State = with_opn (take (length s.opn - 1) s.opn) in
    let P : State → Type 0 = λ r. r ≡ next (with_evs (s.evs ++ words_of x) s) in
    chosen (both (whole_at s.evs o) (eqb (get_or s.evs o 0) 1)) (go (push_of x s) next) (refuse_of 7 s) P
    (λ e. passed (push_of x s) next P (λ za zb. ap next (push-is x s za))) (λ e z. absurd (omega arith))

-- an open event's words
pub enter-word : (f : Frame) (fs : List Frame) (g : List Event) (evs : List ℕ) → evs ≡ pack_of (flat (f ∷ fs) ++ g) → (k : ℕ) → k < 8
    → get_or evs (width * length (flat fs ++ f.before) + k) 0 ≡ get_or (words_of f.enter) k 0
unfolding flat
enter-word f fs g evs e k l = ap (λ (w : List ℕ). get_or w (width * length (flat fs ++ f.before) + k) 0) (e ∙ ap pack_of (flat-at [] f fs g)) ∙ pack-word (flat fs ++ f.before) f.enter g k l

pub exit-words : (i j : ℕ) (f : Frame) (fs : List Frame) (g : List Event) (evs : List ℕ) → evs ≡ pack_of (flat (f ∷ fs) ++ g)
    → exit_event evs (width * length (flat fs ++ f.before)) i j ≡ closing f.enter i j
exit-words i j f fs g evs e =
    let word = enter-word f fs g evs e in
    rw (word 1 (omega arith), word 4 (omega arith), word 5 (omega arith), word 6 (omega arith), word 7 (omega arith))

module _ (i j : ℕ) (f : Frame) (fs : List Frame) (g : List Event) (s : State) (h : Holds (f ∷ fs) g s) where
  abbrev place : ℕ
  place = width * length (flat fs ++ f.before)

  open-count : length s.opn ≡ suc (length fs)
  open-count = holds-count (f ∷ fs) g s h

  last-place : get_or s.opn (length s.opn - 1) 0 ≡ place
  last-place =
      let n : length s.opn - 1 ≡ length fs = omega (arith, open-count) in
      ap₂ (λ (l : List ℕ) (k : ℕ). get_or l k 0) h.opn n ∙ opened-place [] f fs

  pub exit-close : exit_of i j s ≡ close_of i j place s
  unfolding exit_of
  exit-close = rw (ne_eqb (length s.opn) 0 (λ z. omega (arith, open-count, z)), last-place)

  open-left : take (length s.opn - 1) s.opn ≡ places fs
  unfolding places
  open-left =
      let n : length (places fs) ≡ length s.opn - 1 = omega (arith, open-count, places_count fs) in
      ap (λ (l : List ℕ). take (length s.opn - 1) l) h.opn ∙ take_at (places fs) (place ∷ []) (length s.opn - 1) n

  exit-is : (exit_of i j s).number ≡ 0 → exit_of i j s ≡ with_opn (places fs) (with_evs (s.evs ++ words_of (closing f.enter i j)) s)
  exit-is z =
      exit-close
      ∙ close-is i j place s (ap (λ (r : State). r.number) (sym exit-close) ∙ z)
      ∙ ap₂ (λ (l : List ℕ) (x : Event). with_opn l (with_evs (s.evs ++ words_of x) s)) open-left (exit-words i j f fs g s.evs h.evs)

pub holds-exit : (i j : ℕ) (f : Frame) (fs : List Frame) (g : List Event) (s : State) → Holds (f ∷ fs) g s → (exit_of i j s).number ≡ 0
    → Holds fs (f.before ++ (f.enter ∷ (g ++ (closing f.enter i j ∷ [])))) (exit_of i j s)
unfolding flat
holds-exit i j f fs g s h z =
    let x = closing f.enter i j in
    let e : (flat (f ∷ fs) ++ g) ++ (x ∷ []) ≡ flat fs ++ (f.before ++ (f.enter ∷ (g ++ (x ∷ [])))) = simp append_assoc in
    rw (exit-is i j f fs g s h z) (record {
      evs = ap (λ (l : List ℕ). l ++ words_of x) h.evs ∙ sym (pack-more (flat (f ∷ fs) ++ g) x) ∙ ap pack_of e;
      opn = refl;
    })

-- ---- a body word of an Enter that is open
module _ (k v : ℕ) (f : Frame) (ds : List Frame) where
  abbrev patched : Frame
  patched = record { before = f.before; enter = body_as k v f.enter }

  flat-count : (us : List Frame) (g : List Event) → length (flat (us ++ (patched ∷ ds)) ++ g) ≡ length (flat (us ++ (f ∷ ds)) ++ g)
  flat-count us g =
      let l = flat ds ++ f.before in
      let r = flat us ++ g in
      ap length (flat-at us patched ds g) ∙ length-append l (patched.enter ∷ r) ∙ sym (length-append l (f.enter ∷ r)) ∙ sym (ap length (flat-at us f ds g))

  places_same : (us : List Frame) → places (us ++ (patched ∷ ds)) ≡ places (us ++ (f ∷ ds))
  unfolding places
  places_same [] = refl
  places_same (u ∷ us) = ap₂ (λ (l : List ℕ) (n : ℕ). l ++ (width * n ∷ [])) (places_same us) (flat-count us u.before)

-- us are the frames further in
pub holds-patch : (k v : ℕ) (us : List Frame) (f : Frame) (ds : List Frame) (g : List Event) (s : State) → k < 4 → Holds (us ++ (f ∷ ds)) g s
    → Holds (us ++ ((record { before = f.before; enter = body_as k v f.enter }) ∷ ds)) g (patch_of (width * length (flat ds ++ f.before) + 4 + k) v s)
unfolding patch_of
holds-patch k v us f ds g s l h =
    let xs = flat ds ++ f.before in
    record {
      evs = ap (λ (w : List ℕ). set w (width * length xs + 4 + k) v) (h.evs ∙ ap pack_of (flat-at us f ds g))
          ∙ pack-body k v xs f.enter (flat us ++ g) l
          ∙ ap pack_of (sym (flat-at us (patched k v f ds) ds g));
      opn = h.opn ∙ sym (places_same k v f ds us);
    }

-- ---- events behind the innermost that is open
-- the same events, put together otherwise
pub holds_as : (fs : List Frame) (g k : List Event) (s : State) → g ≡ k → Holds fs g s → Holds fs k s
holds_as fs g k s e h = subst (λ (l : List Event). Holds fs l s) e h

pub count-more : (fs : List Frame) (g ys : List Event) → length (flat fs ++ (g ++ ys)) ≡ length (flat fs ++ g) + length ys
count-more fs g ys = ap (λ (l : List Event). length l) (sym (append_assoc (flat fs) g ys)) ∙ length-append (flat fs ++ g) ys

-- a body word of one of them
pub holds-body : (k v i : ℕ) (fs : List Frame) (g : List Event) (x : Event) (ys : List Event) (s : State) → k < 4 → i ≡ width * length (flat fs ++ g) + 4 + k
    → Holds fs (g ++ (x ∷ ys)) s → Holds fs (g ++ (body_as k v x ∷ ys)) (patch_of i v s)
unfolding patch_of
holds-body k v i fs g x ys s l e h = record {
  evs = ap₂ (λ (w : List ℕ) (j : ℕ). set w j v) (h.evs ∙ ap pack_of (sym (append_assoc (flat fs) g (x ∷ ys)))) e
      ∙ pack-body k v (flat fs ++ g) x ys l
      ∙ ap pack_of (append_assoc (flat fs) g (body_as k v x ∷ ys));
  opn = h.opn;
}

-- the last of them are cut off
pub holds-cut : (n : ℕ) (fs : List Frame) (g ys : List Event) (s : State) → n ≡ width * length (flat fs ++ g) → Holds fs (g ++ ys) s → Holds fs g (cut_of n s)
unfolding cut_of
holds-cut n fs g ys s e h = record {
  evs = ap (λ (w : List ℕ). take n w) (h.evs ∙ ap pack_of (sym (append_assoc (flat fs) g ys))) ∙ pack-take (flat fs ++ g) ys n e;
  opn = h.opn;
}
