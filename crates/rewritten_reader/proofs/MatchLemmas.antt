-- What a sink that compares with a file knows.
use Rattle.std.proofs.Common.{◌≡◌, ◌≢◌, ℕ, zero, suc, ◌+◌, ◌-◌, ◌<◌, ◌==◌, Bool, true, false, nat_lt, List, [], ◌∷◌, ◌++◌, length, take, drop, slice_index, Option, Some, None, arith, sym, ap, subst, refl, ◌∙◌, append_assoc, length-append, ltb-true, ltb-false}
use Rattle.std.specs.Prelude.{is_some}
use Rattle.std.specs.Option.{option_map}
use Rattle.std.proofs.Math.Seq.{take-add}
use Rattle.std.proofs.lemmas.Bool.Decides.{nat_tests}
use Rattle.std.proofs.lemmas.List.{append-nil, take_all, length-drop, length-take}
use Rattle.world_io.specs.Outside.{Sure}
use Rattle.world_io.specs.Puts.{took}
use Rattle.world_io.specs.Logs.{bytes_of}
use Rattle.world_io.specs.Texts.{PutsText}
use Rattle.world_io.proofs.Sinks.{log-bytes, log-fixed, part-PutsText, rose-PutsText}
use Rattle.rewritten_reader.specs.Damage.{first_difference}
use Rattle.rewritten_reader.specs.Finds.{Finds, found_of, shown_by}
use Rattle.rewritten_reader.specs.Matches.{MatchState, IsMatch, extra, told_of_match}

no-room : (k : ℕ) → Sure 0 ≡ Sure (0 - k)
no-room k = ap Sure (omega arith)

-- bytes that agree join those that were taken
pub takes-more : (file : List ℕ) (at k : ℕ) (bytes : List ℕ) (other : Option ℕ) (faults : ℕ) (v : MatchState)
    → record { file = file; at = at; other = other; faults = faults } ≡ v → false ≡ is_some other
    → take k (take (length file - at) (drop at file)) ≡ take k bytes
    → told_of_match (record { file = file; at = at + k; other = other; faults = faults }) ≡ took (told_of_match v) bytes k
takes-more file at k bytes (Some x) faults v same none agree = absurd cc
takes-more file at k bytes None faults v same none agree =
    let all : take (length file - at) (drop at file) ≡ drop at file = take_all (length file - at) (drop at file) (omega (arith, length-drop {A = ℕ})) in
    let front : take (at + k) file ≡ take at file ++ take k bytes =
    take-add at k file ∙ ap (λ w. take at file ++ w) (ap (take k) (sym all) ∙ agree) in
    let whole : take (at + k) file ++ [] ≡ (take at file ++ []) ++ take k bytes =
    append-nil (take (at + k) file) ∙ front ∙ ap (λ w. w ++ take k bytes) (sym (append-nil (take at file))) in
    let room = no-room k in
    subst (λ (u : MatchState). told_of_match (record { file = file; at = at + k; other = None; faults = faults }) ≡ took (told_of_match u) bytes k) same
    (λ i. record { bytes = Some (whole i); puts = None; numbers = None; room = room i; faults = faults; fixed = file })

-- ---- what it shows at the end

pub same-test : (n : ℕ) → (n == n) ≡ true
same-test n = grind (arith, nat_tests)

other-test : (m n : ℕ) → m ≢ n → (m == n) ≡ false
other-test m n h = grind (arith, nat_tests)

-- a text that goes on with another byte
differs-at : (file : List ℕ) (at x : ℕ) (rest : List ℕ) → at < length file → slice_index file at ≢ x
    → first_difference (take at file ++ x ∷ rest) file ≡ Some at
differs-at [] at x rest below other = absurd (omega arith)
differs-at (y ∷ file) zero x rest below other = rw (other-test x y (λ e. other (sym e))) refl
differs-at (y ∷ file) (suc at) x rest below other =
    rw (same-test y) (ap (option_map suc) (differs-at file at x rest (omega arith) other))

-- a text that ends before its file, or goes on behind it
ends : (file : List ℕ) (at : ℕ) → first_difference (take at file) file ≡ None
ends file zero = refl
ends [] (suc at) = refl
ends (y ∷ file) (suc at) = rw (same-test y) (ap (option_map suc) (ends file at))

goes-on : (file more : List ℕ) → first_difference (file ++ more) file ≡ None
goes-on [] [] = refl
goes-on [] (x ∷ more) = refl
goes-on (y ∷ file) more = rw (same-test y) (ap (option_map suc) (goes-on file more))

pub same-files : (file : List ℕ) → first_difference file file ≡ None
same-files [] = refl
same-files (y ∷ file) = rw (same-test y) (ap (option_map suc) (same-files file))

concludes : (file : List ℕ) (at : ℕ) (other : Option ℕ) (faults : ℕ) (rest text : List ℕ) (below : Bool) → IsMatch file at other faults
    → (take at file ++ extra other) ++ rest ≡ text → (other ≡ None → rest ≡ []) → nat_lt at (length file) ≡ below
    → Finds text file (shown_by other at below)
concludes file at (Some x) faults rest text true h e none test =
    subst (λ (t : List ℕ). first_difference t file ≡ Some at) (sym (append_assoc (take at file) (x ∷ []) rest) ∙ e)
    (differs-at file at x rest (ltb-true at (length file) test) (h.differs x refl (ltb-true at (length file) test)))
concludes file at (Some x) faults rest text false h e none test =
    let all : take at file ≡ file = take_all at file (ltb-false at (length file) test) in
    let is : file ++ (x ∷ rest) ≡ text = ap (λ w. w ++ (x ∷ rest)) (sym all) ∙ sym (append_assoc (take at file) (x ∷ []) rest) ∙ e in
    let long : length text ≡ length file + suc (length rest) = sym (ap length is) ∙ length-append file (x ∷ rest) in (
      subst (λ (t : List ℕ). first_difference t file ≡ None) is (goes-on file (x ∷ rest)),
      other-test (length text) (length file) (λ same. omega (arith, long, same)),
    )
concludes file at None faults rest text true h e none test =
    let is : take at file ≡ text = sym (append-nil (take at file)) ∙ sym (append-nil (take at file ++ [])) ∙ ap (λ w. (take at file ++ []) ++ w) (sym (none refl)) ∙ e in
    let short : at < length file = ltb-true at (length file) test in
    let long : length text ≡ length (take at file) = sym (ap length is) in (
      subst (λ (t : List ℕ). first_difference t file ≡ None) is (ends file at),
      other-test (length text) (length file) (λ same. omega (arith, long, same, short, length-take {A = ℕ} at file)),
    )
concludes file at None faults rest text false h e none test =
    let is : take at file ≡ text = sym (append-nil (take at file)) ∙ sym (append-nil (take at file ++ [])) ∙ ap (λ w. (take at file ++ []) ++ w) (sym (none refl)) ∙ e in
    sym is ∙ take_all at file (ltb-false at (length file) test)

-- where a text was put to it, whole or not
finds-from : (file p rest text : List ℕ) (v : MatchState) → IsMatch v.file v.at v.other v.faults → v.file ≡ file
    → Some (take v.at v.file ++ extra v.other) ≡ option_map (λ (all : List ℕ). all ++ p) (Some (take 0 file ++ []))
    → p ++ rest ≡ text → (v.other ≡ None → rest ≡ []) → Finds text file (found_of v (length file))
finds-from file p rest text v h same e whole none =
    let taken : take v.at v.file ++ extra v.other ≡ p = cc in
    let front : (take v.at file ++ extra v.other) ++ rest ≡ text =
    ap (λ (f : List ℕ). (take v.at f ++ extra v.other) ++ rest) (sym same) ∙ ap (λ (w : List ℕ). w ++ rest) taken ∙ whole in
    concludes file v.at v.other v.faults rest text (nat_lt v.at (length file)) (subst (λ (f : List ℕ). IsMatch f v.at v.other v.faults) same h) front none refl

pub finds : (text file : List ℕ) (whole : Bool) (start v : MatchState) → start ≡ record { file = file; at = 0; other = None; faults = 0 }
    → PutsText (told_of_match start) text whole (told_of_match v) → IsMatch v.file v.at v.other v.faults → Finds text file (found_of v (length file))
finds text file whole start v same puts h =
    let part = part-PutsText (told_of_match start) (told_of_match v) text whole puts in
    let bytes = log-bytes (told_of_match start) (told_of_match v) puts.pieces puts.fault puts.log in
    let told = bytes ∙ ap (λ (s : MatchState). option_map (λ (all : List ℕ). all ++ bytes_of puts.pieces) (told_of_match s).bytes) same in
    let made = log-fixed (told_of_match start) (told_of_match v) puts.pieces puts.fault puts.log ∙ ap (λ (s : MatchState). s.file) same in
    finds-from file (bytes_of puts.pieces) part.rest text v h made told part.parts (λ none. by_whole whole part.rest puts part.none none)
  where
    -- where no byte differed no put failed
    by_whole : (done : Bool) (rest : List ℕ) → PutsText (told_of_match start) text done (told_of_match v) → (done ≡ true → rest ≡ []) → v.other ≡ None → rest ≡ []
    by_whole true rest puts none other = none refl
    by_whole false rest puts none other =
        let rose = rose-PutsText (told_of_match start) (told_of_match v) text puts in
        let zero_faults : start.faults ≡ 0 = ap (λ (s : MatchState). s.faults) same in
        absurd (let steady = h.steady other in omega (arith, rose, steady, zero_faults))
