-- The premises of the laws are met: by a program that reads three times, computed.
use Rattle.std.proofs.Common.{◌≡◌, ℕ, zero, suc, ◌+◌, ◌*◌, ◌^◌, ◌<◌, ◌≤◌, Bool, true, false, ◌&&◌, nat_lt, List, [], ◌∷◌, ◌++◌, length, map, get_or, replicate, Option, Some, None, All, pos, IsTrue, refl, ◌∙◌, ap, sym, subst, arith, lit<}
use Rattle.std.specs.Prelude.{◌≢◌, bytes_eq}
use Rattle.std.proofs.lemmas.List.{length-replicate}
use Rattle.std.proofs.lemmas.List.Elements.{All-nil, All-cons, All-replicate}
use Rattle.std.proofs.lemmas.Bool.Decides.{nat_tests}
use Rattle.spec_base.specs.Files.{Name}
use Rattle.spec_base.specs.declared.spot.ReadSpot.{ReadSpot}
use Rattle.rv_decode.specs.Instruction.{instr_of}
use Rattle.rv_decode.specs.declared.instr.Instr.TheVariants.{Ecall}
use Rattle.rv_model.specs.Memory.{patched, loaded, bytes_at, all_from, any_from}
use Rattle.program_model.specs.Calls.{name_from}
use Rattle.program_model.specs.Cache.{gather}
use Rattle.program_model.specs.PlainRun.{state_after}
use Rattle.program_model.specs.Loading.{Executable}
use Rattle.code_model.specs.Regions.{shadowed, with_copies, set_in_copies, uncopied}
use Rattle.run_model.specs.Run.{World, Run}
use Rattle.run_model.specs.Moves.{run, run_from}
use Rattle.run_model.specs.Restarts.{before_horizon, unfilled_with}
use Rattle.run_laws.specs.OwnLaws.{Accepted, AllBytes}
use Rattle.run_laws.specs.HintLaws.{IsFollowing, HintsAreMet}
use Rattle.run_model.proofs.Samples.{addi, two_segments, opens, reads_page, exits, reads_thrice, name, file, rounds, spots}
use Rattle.run_laws.proofs.Loaded.{words-bytes, loaded-accepted}

-- ---- lists of small numbers

abbrev are_below : ℕ → List ℕ → Bool
are_below most [] = true
are_below most (x ∷ xs) = nat_lt x most && are_below most xs

both : (a b : Bool) → (a && b) ≡ true → (a ≡ true) × (b ≡ true)
both true b e = (refl, e)
both false b e = absurd (no e)
  where
    no : false ≡ true → ⊥
    no e = cc

below : (x most : ℕ) → nat_lt x most ≡ true → x < most
below x most e = grind (arith, nat_tests)

all-below : (most : ℕ) (xs : List ℕ) → are_below most xs ≡ true → All (λ x. x < most) xs
all-below most [] e = All-nil (λ x. x < most)
all-below most (x ∷ xs) e = let h = both (nat_lt x most) (are_below most xs) e in All-cons (λ x. x < most) x xs (below x most h.0) (all-below most xs h.1)

-- ---- the world

-- the file of a world
file-fits : (bytes : List ℕ) → length bytes < 2 ^ 56 → AllBytes bytes → (asked : Name) (found : List ℕ) → file bytes asked ≡ Some found → (length found < 2 ^ 56) × AllBytes found
file-fits bytes l h asked found e = by_test (bytes_eq asked name) e
  where
    by_test : (b : Bool) → elim b [ true ↦ Some bytes | false ↦ None ] ≡ Some found → (length found < 2 ^ 56) × AllBytes found
    by_test true e = let is : bytes ≡ found = cc in subst (λ (b : List ℕ). (length b < 2 ^ 56) × AllBytes b) is (l, h)
    by_test false e = absurd (no e)
      where
        no : None ≡ Some found → ⊥
        no e = cc

sevens : AllBytes (replicate 5000 7)
sevens = All-replicate (λ b. b < 256) 5000 7 (lit< tt)

few : length {A = ℕ} (replicate 5000 7) < 2 ^ 56
few = subst (λ n. n < 2 ^ 56) (sym (length-replicate {A = ℕ} 5000 7)) (lit< tt)

-- the world of three reads is accepted
three_is_accepted : Accepted reads_thrice
three_is_accepted =
    let e : Executable = two_segments 4096 (opens ++ reads_page ++ addi 10 9 (pos 0) ∷ Ecall ∷ addi 10 9 (pos 0) ∷ Ecall ∷ exits) in
    loaded-accepted e ((109 ∷ 49 ∷ []) ∷ []) (file (replicate 5000 7)) refl refl (all-below (2 ^ 32) e.words refl)
    (words-bytes e.words, (all-below 256 (100 ∷ 97 ∷ 116 ∷ 97 ∷ 0 ∷ 0 ∷ 0 ∷ 0 ∷ 100 ∷ 111 ∷ 110 ∷ 101 ∷ 10 ∷ 0 ∷ 0 ∷ 0 ∷ []) refl, tt))
    (All-cons AllBytes (109 ∷ 49 ∷ []) [] (all-below 256 (109 ∷ 49 ∷ []) refl) (All-nil AllBytes)) (file-fits (replicate 5000 7) few sevens)

-- ---- its run, up to the second read

three_amid : Run
three_amid = run reads_thrice (rounds 100 600)

three_amid-is : three_amid ≡ run reads_thrice (rounds 100 600)
unfolding three_amid
three_amid-is = refl

-- what is seen of it: the restarts, whether the own hart has been past the shadow, whether each put was whole, the horizon, and the hints
record Seen : Type 0 where
  restarts : ℕ
  ahead : Bool
  whole : Bool
  before : Bool
  hints : List (ℕ × ℕ)

abbrev seen : Run → Seen
seen r = record { restarts = r.restarts; ahead = r.since.ahead; whole = r.since.whole; before = before_horizon reads_thrice r r.since.shadow; hints = spots r.since.hints }

abbrev expected : Seen
expected = record { restarts = 1; ahead = true; whole = true; before = true; hints = (4096, 904) ∷ (5000, 0) ∷ [] }

three_amid-seen : seen three_amid ≡ expected
unfolding three_amid run_from instr_of patched loaded bytes_at all_from name_from gather shadowed with_copies set_in_copies uncopied before_horizon unfilled_with any_from state_after
three_amid-seen = refl

-- it follows its restart
three_follows : IsFollowing three_amid
three_follows =
    let one : three_amid.restarts ≡ 1 = ap (λ (s : Seen). s.restarts) three_amid-seen in
    record {
      restarted = omega (arith, one);
      ahead = ap (λ (s : Seen). s.ahead) three_amid-seen;
      whole = ap (λ (s : Seen). s.whole) three_amid-seen;
    }

-- before the horizon
three_before : IsTrue (before_horizon reads_thrice three_amid three_amid.since.shadow)
three_before = ap (λ (s : Seen). s.before) three_amid-seen

-- and has given hints
some_hints : three_amid.since.hints ≢ []
some_hints e = absurd (no (sym (ap spots e) ∙ ap (λ (s : Seen). s.hints) three_amid-seen))
  where
    no : {x : ℕ × ℕ} {xs : List (ℕ × ℕ)} → [] ≡ x ∷ xs → ⊥
    no e = cc

-- ---- the premises of the hints' laws are met

pub hints_are_met : HintsAreMet
hints_are_met = (
  reads_thrice,
  rounds 100 600,
  three_is_accepted,
  subst (λ (r : Run). IsFollowing r) three_amid-is three_follows,
  subst (λ (r : Run). IsTrue (before_horizon reads_thrice r r.since.shadow)) three_amid-is three_before,
  subst (λ (r : Run). r.since.hints ≢ []) three_amid-is some_hints,
)
