-- Two answers that one contract admits are equal, and so is every lent word: for each exported function, of its own `ensures`. Assumes nothing.
use mathlib.Core.Path.{◌≡◌, sym, ◌∙◌}
use Rattle.parse.proofs.parse_within.Reads.{Post as ParseWithin}
use Rattle.parse.proofs.parse.Reads.{Post as Parse}
use Rattle.records.proofs.ToldLaws.{told-one}
use Rattle.records.proofs.write.Reads.{Post as Write}
use Rattle.records.proofs.read.Reads.{Post as Read}
use Rattle.listing.proofs.list.Reads.{Post as List}
use Rattle.listing.proofs.page.Reads.{Post as Page}
use Rattle.heads.proofs.mode_of.Reads.{Post as ModeOf}
use Rattle.heads.proofs.text_of.Reads.{Post as TextOf}
use Rattle.editions.proofs.compare_within.Reads.{Post as CompareWithin}
use Rattle.editions.proofs.compare.Reads.{Post as Compare}
use Rattle.editions.proofs.older_part.Reads.{Post as OlderPart}
use Rattle.editions.proofs.newer_part.Reads.{Post as NewerPart}
use Rattle.editions.proofs.changed.Reads.{Post as Changed}
use Rattle.tolphaneap.proofs.tolphaneap_parse.Reads.{Post as CParse}
use Rattle.tolphaneap.proofs.tolphaneap_write.Reads.{Post as CWrite}
use Rattle.tolphaneap.proofs.tolphaneap_read.Reads.{Post as CRead}
use Rattle.tolphaneap.proofs.tolphaneap_list.Reads.{Post as CList}
use Rattle.tolphaneap.proofs.tolphaneap_page.Reads.{Post as CPage}
use Rattle.tolphaneap.proofs.tolphaneap_changes.Reads.{Post as CChanges}

-- what equals the same is equal
same : {A : Type 0} {x y z : A} → x ≡ z → y ≡ z → x ≡ y
same p q = p ∙ sym q

-- ---- the library: for the same arguments a, results r and r', parameters at exit x and x'
-- lines and events
pub parse-within-one : (κs : _) (a : _) (r r' : _) (x x' : _) → ParseWithin κs a r x → ParseWithin κs a r' x'
    → (r ≡ r') × (x.1.0.now ≡ x'.1.0.now) × (x.1.1.0.now ≡ x'.1.1.0.now)
parse-within-one κs a r r' x x' p q = (same p.0 q.0, same p.1.0 q.1.0, same p.1.1 q.1.1)

pub parse-one : (κs : _) (a : _) (r r' : _) (x x' : _) → Parse κs a r x → Parse κs a r' x'
    → (r ≡ r') × (x.1.0.now ≡ x'.1.0.now) × (x.1.1.0.now ≡ x'.1.1.0.now)
parse-one κs a r r' x x' p q = (same p.0 q.0, same p.1.0 q.1.0, same p.1.1 q.1.1)

-- bytes; event words; bytes
pub write-one : (κs : _) (a : _) (r r' : _) (x x' : _) → Write κs a r x → Write κs a r' x' → (r ≡ r') × (x.1.0.now ≡ x'.1.0.now)
write-one κs a r r' x x' p q = (told-one r r' (same p.0 q.0), same p.1 q.1)

pub read_one : (κs : _) (a : _) (r r' : _) (x x' : _) → Read κs a r x → Read κs a r' x' → (r ≡ r') × (x.1.0.now ≡ x'.1.0.now)
read_one κs a r r' x x' p q = (told-one r r' (same p.0 q.0), same p.1 q.1)

pub list-one : (κs : _) (a : _) (r r' : _) (x x' : _) → List κs a r x → List κs a r' x' → (r ≡ r') × (x.1.1.0.now ≡ x'.1.1.0.now)
list-one κs a r r' x x' p q = (told-one r r' (same p.0 q.0), same p.1 q.1)

pub page-one : (κs : _) (a : _) (r r' : _) (x x' : _) → Page κs a r x → Page κs a r' x' → (r ≡ r') × (x.1.1.1.1.1.0.now ≡ x'.1.1.1.1.1.0.now)
page-one κs a r r' x x' p q = (told-one r r' (same p.0 q.0), same p.1 q.1)

-- the mode, and the bytes behind the line, that the programs find in a file
pub mode-of-one : (κs : _) (a : _) (r r' : _) (x x' : _) → ModeOf κs a r x → ModeOf κs a r' x' → r ≡ r'
mode-of-one κs a r r' x x' p q = same p q

pub text-of-one : (κs : _) (a : _) (r r' : _) (x x' : _) → TextOf κs a r x → TextOf κs a r' x' → r.now ≡ r'.now
text-of-one κs a r r' x x' p q = same p q

-- lines and events
pub compare-within-one : (κs : _) (a : _) (r r' : _) (x x' : _) → CompareWithin κs a r x → CompareWithin κs a r' x'
    → (r ≡ r') × (x.1.1.1.1.0.now ≡ x'.1.1.1.1.0.now) × (x.1.1.1.1.1.0.now ≡ x'.1.1.1.1.1.0.now)
compare-within-one κs a r r' x x' p q = (same p.0 q.0, same p.1.0 q.1.0, same p.1.1 q.1.1)

pub compare-one : (κs : _) (a : _) (r r' : _) (x x' : _) → Compare κs a r x → Compare κs a r' x'
    → (r ≡ r') × (x.1.1.1.1.0.now ≡ x'.1.1.1.1.0.now) × (x.1.1.1.1.1.0.now ≡ x'.1.1.1.1.1.0.now)
compare-one κs a r r' x x' p q = (same p.0 q.0, same p.1.0 q.1.0, same p.1.1 q.1.1)

-- a part's bytes
pub older-part-one : (κs : _) (a : _) (r r' : _) (x x' : _) → OlderPart κs a r x → OlderPart κs a r' x' → r.now ≡ r'.now
older-part-one κs a r r' x x' p q = same p q

pub newer-part-one : (κs : _) (a : _) (r r' : _) (x x' : _) → NewerPart κs a r x → NewerPart κs a r' x' → r.now ≡ r'.now
newer-part-one κs a r r' x x' p q = same p q

pub changed-one : (κs : _) (a : _) (r r' : _) (x x' : _) → Changed κs a r x → Changed κs a r' x' → r.now ≡ r'.now
changed-one κs a r r' x x' p q = same p q

-- ---- the interface for other languages: the answer is the last parameter
pub c-parse-one : (κs : _) (a : _) (r r' : _) (x x' : _) → CParse κs a r x → CParse κs a r' x'
    → (x.1.1.1.0.now ≡ x'.1.1.1.0.now) × (x.1.0.now ≡ x'.1.0.now) × (x.1.1.0.now ≡ x'.1.1.0.now)
c-parse-one κs a r r' x x' p q = (same p.0 q.0, same p.1.0 q.1.0, same p.1.1 q.1.1)

pub c-write-one : (κs : _) (a : _) (r r' : _) (x x' : _) → CWrite κs a r x → CWrite κs a r' x' → (x.1.1.0.now ≡ x'.1.1.0.now) × (x.1.0.now ≡ x'.1.0.now)
c-write-one κs a r r' x x' p q = (same p.0 q.0, same p.1 q.1)

pub c-read-one : (κs : _) (a : _) (r r' : _) (x x' : _) → CRead κs a r x → CRead κs a r' x' → (x.1.1.0.now ≡ x'.1.1.0.now) × (x.1.0.now ≡ x'.1.0.now)
c-read-one κs a r r' x x' p q = (same p.0 q.0, same p.1 q.1)

pub c-list-one : (κs : _) (a : _) (r r' : _) (x x' : _) → CList κs a r x → CList κs a r' x' → (x.1.1.1.0.now ≡ x'.1.1.1.0.now) × (x.1.1.0.now ≡ x'.1.1.0.now)
c-list-one κs a r r' x x' p q = (same p.0 q.0, same p.1 q.1)

pub c-page-one : (κs : _) (a : _) (r r' : _) (x x' : _) → CPage κs a r x → CPage κs a r' x'
    → (x.1.1.1.1.0.now ≡ x'.1.1.1.1.0.now) × (x.1.1.1.0.now ≡ x'.1.1.1.0.now)
c-page-one κs a r r' x x' p q = (same p.0 q.0, same p.1 q.1)

pub c-changes-one : (κs : _) (a : _) (r r' : _) (x x' : _) → CChanges κs a r x → CChanges κs a r' x'
    → (x.1.1.1.1.1.1.0.now ≡ x'.1.1.1.1.1.1.0.now) × (x.1.1.1.1.0.now ≡ x'.1.1.1.1.0.now) × (x.1.1.1.1.1.0.now ≡ x'.1.1.1.1.1.0.now)
c-changes-one κs a r r' x x' p q = (same p.0 q.0, same p.1.0 q.1.0, same p.1.1 q.1.1)
