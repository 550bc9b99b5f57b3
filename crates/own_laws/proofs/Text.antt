-- What is fetched of a program stands in its text, below 2^64.
use Rattle.std.proofs.Common.{◌≡◌, ℕ, suc, ◌+◌, ◌-◌, ◌*◌, ◌/◌, ◌%◌, ◌^◌, ◌≤◌, ◌<◌, Bool, true, false, ◌&&◌, List, [], ◌∷◌, length, map, nat_le, slice_get, Some, None, refl, ap, ◌==◌, arith}
use Rattle.std.proofs.lemmas.Option.{slice_get_within}
use Rattle.std.proofs.lemmas.Bool.Decides.{nat_tests}
use Rattle.spec_base.specs.Layout.{image_limit}
use Rattle.spec_base.specs.declared.layout.Version.{Version}
use Rattle.spec_base.specs.declared.layout.Version.TheVariants.{One, Two}
use Rattle.rv_decode.specs.declared.instr.Instr.{Instr}
use Rattle.rv_model.specs.Effect.{fetched}
use Rattle.program_model.specs.PlainRun.{text_of}
use Rattle.run_model.specs.Run.{World}
use Rattle.run_laws.specs.OwnLaws.{Accepted}
use Rattle.own_laws.proofs.Reached.{none_some}

-- what is fetched stands in the text
fetched-below : {A : Type 0} (code : List A) (start pc : ℕ) (i : A) → fetched code start pc ≡ Some i → pc < start + 4 * length code
fetched-below code start pc i e = by_test (nat_le start pc && (pc % 4 == 0)) e
  where
    by_test : (b : Bool) → elim b [ true ↦ slice_get code ((pc - start) / 4) | false ↦ None ] ≡ Some i → pc < start + 4 * length code
    by_test true e = omega (arith, slice_get_within code ((pc - start) / 4) i e)
    by_test false e = none_some e

-- a mapped list is as long
length-map : {A B : Type 0} (f : A → B) (xs : List A) → length (map f xs) ≡ length xs
length-map f [] = refl
length-map f (x ∷ xs) = ap suc (length-map f xs)

-- the image's limit is below 2^64
limit-small : (v : Version) → image_limit v < 2 ^ 64
limit-small One = omega arith
limit-small Two = omega arith

-- the pc of an instruction is below 2^64
pub place-small : (w : World) → Accepted w → (pc : ℕ) (i : Instr) → fetched (text_of w.image) w.image.layout.text_start pc ≡ Some i → pc < 2 ^ 64
place-small w a pc i e =
    let inside : pc < w.image.layout.text_start + 4 * length (text_of w.image) = fetched-below (text_of w.image) w.image.layout.text_start pc i e in
    let words : length (text_of w.image) ≡ length w.image.words = length-map _ w.image.words in
    let end : w.image.layout.text_end ≤ image_limit w.image.layout.version = grind (arith, nat_tests, a.lawful) in
    omega (arith, inside, words, a.text, end, limit-small w.image.layout.version)
