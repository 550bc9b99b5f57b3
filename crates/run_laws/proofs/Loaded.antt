-- A loaded program and files are an accepted world.
use Rattle.std.proofs.Common.{◌≡◌, ℕ, zero, suc, ◌+◌, ◌-◌, ◌*◌, ◌/◌, ◌%◌, ◌^◌, ◌<◌, ◌≤◌, Bool, true, false, List, [], ◌∷◌, length, get_or, Option, Some, None, All, IsTrue, refl, sym, subst, arith, lit<, lit≤, inl, inr, ◌⊎◌, ◌==◌}
use Rattle.std.proofs.lemmas.Bool.{cases_lt}
use Rattle.std.proofs.lemmas.List.{get_or_past}
use Rattle.std.proofs.lemmas.List.Elements.{All-nil, All-cons, All-head, All-tail, All-get_or, All-append}
use Rattle.spec_base.specs.Word.{bytes_of}
use Rattle.spec_base.specs.Files.{Name, Files}
use Rattle.spec_base.specs.Layout.{is_lawful, range_end}
use Rattle.spec_base.specs.declared.layout.Layout.{Layout}
use Rattle.spec_base.specs.declared.layout.Version.{Version}
use Rattle.spec_base.specs.declared.layout.Version.TheVariants.{One, Two}
use Rattle.rv_model.specs.Memory.{Memory, zeros, patched, written, is_within}
use Rattle.rv_model.specs.Rights.{in_text}
use Rattle.rv_model.specs.Registers.{with_reg, all_zero}
use Rattle.program_model.specs.Loading.{Executable, data_of, with_parts, argument_bytes, bytes_of_words, arguments_start, stack_start, stack_words, loaded_image}
use Rattle.run_laws.specs.OwnLaws.{Accepted, AllBytes}

-- ---- bytes

abbrev AreBytes : Memory → Type 0
AreBytes m = (a : ℕ) → m a < 256

byte-below : (bytes : List ℕ) → AllBytes bytes → (i : ℕ) → get_or bytes i 0 < 256
byte-below bytes h i = by_case (cases_lt i (length bytes))
  where
    by_case : (i < length bytes) ⊎ (length bytes ≤ i) → get_or bytes i 0 < 256
    by_case (inl l) = All-get_or (λ b. b < 256) bytes i 0 l h
    by_case (inr l) = subst (λ n. n < 256) (sym (get_or_past bytes i 0 l)) (lit< tt)

-- a choice of two numbers below a bound is below it
chosen-below : (t : Bool) (x y most : ℕ) → x < most → y < most → elim t [ true ↦ x | false ↦ y ] < most
chosen-below true x y most h k = h
chosen-below false x y most h k = k

-- bytes that are written
written-bytes : (m : Memory) (base : ℕ) (bytes : List ℕ) → AreBytes m → AllBytes bytes → AreBytes (written m base bytes)
unfolding patched
written-bytes m base bytes h k a = chosen-below (is_within base (length bytes) a) (get_or bytes (a - base) 0) (m a) 256 (byte-below bytes k (a - base)) (h a)

-- the bytes of a number
number-bytes : (n v : ℕ) → AllBytes (bytes_of n v)
number-bytes zero v = All-nil (λ b. b < 256)
number-bytes (suc n) v = All-cons (λ b. b < 256) (v % 256) (bytes_of n (v / 256)) (omega arith) (number-bytes n (v / 256))

-- those of words
pub words-bytes : (words : List ℕ) → AllBytes (bytes_of_words words)
words-bytes [] = All-nil (λ b. b < 256)
words-bytes (word ∷ words) = All-append (λ b. b < 256) (bytes_of 8 word) (bytes_of_words words) (number-bytes 8 word) (words-bytes words)

-- ---- the start

-- the bytes of each part of a file
abbrev pub AllParts : List (ℕ × List ℕ) → Type 0
AllParts [] = Unit {0}
AllParts (part ∷ parts) = AllBytes part.1 × AllParts parts

parts-bytes : (parts : List (ℕ × List ℕ)) (m : Memory) → AllParts parts → AreBytes m → AreBytes (with_parts m parts)
parts-bytes [] m h k = k
parts-bytes (part ∷ parts) m h k = parts-bytes parts (written m part.0 part.1) h.1 (written-bytes m part.0 part.1 k h.0)

data-bytes : (l : Layout) (m : Memory) → AreBytes m → AreBytes (data_of l m)
data-bytes l m h a = chosen-below (in_text l a) 0 (m a) 256 (lit< tt) (h a)

arguments-bytes : (arguments : List (List ℕ)) → All AllBytes arguments → AllBytes (argument_bytes arguments)
arguments-bytes [] h = All-nil (λ b. b < 256)
arguments-bytes (argument ∷ arguments) h =
    All-append (λ b. b < 256) argument (0 ∷ argument_bytes arguments) (All-head AllBytes argument arguments h)
    (All-cons (λ b. b < 256) 0 (argument_bytes arguments) (lit< tt) (arguments-bytes arguments (All-tail AllBytes argument arguments h)))

range-below : (v : Version) → range_end v ≤ 0x4000_0000
range-below One = lit≤ tt
range-below Two = lit≤ tt

start-below : (end total words : ℕ) → end ≤ 0x4000_0000 → (end - total - words) / 16 * 16 < 2 ^ 64
start-below end total words h = omega arith

stack-below : (l : Layout) (arguments : List (List ℕ)) → stack_start l arguments < 2 ^ 64
stack-below l arguments = start-below (range_end l.version) (length (argument_bytes arguments)) (8 * (length arguments + 5)) (range-below l.version)

-- ---- the world

-- a loaded program with a lawful layout, and files of fewer than 2^56 bytes
pub loaded-accepted : (e : Executable) (arguments : List (List ℕ)) (files : Files) → IsTrue (is_lawful e.layout) → e.layout.text_end ≡ e.layout.text_start + 4 * length e.words → All (λ word. word < 2 ^ 32) e.words
    → AllParts e.parts → All AllBytes arguments → ((name : Name) (bytes : List ℕ) → files name ≡ Some bytes → (length bytes < 2 ^ 56) × AllBytes bytes)
    → Accepted (record { image = loaded_image e arguments; files = files })
loaded-accepted e arguments files lawful text words parts are_words are_files =
    let l : Layout = e.layout in
    let base : Memory = data_of l (with_parts zeros e.parts) in
    record {
      lawful = lawful;
      text = text;
      words = words;
      registers = λ i. chosen-below (i == 2) (stack_start l arguments) 0 (2 ^ 64) (stack-below l arguments) (lit< tt);
      memory =
          written-bytes (written base (arguments_start l arguments) (argument_bytes arguments)) (stack_start l arguments) (bytes_of_words (stack_words l arguments))
          (written-bytes base (arguments_start l arguments) (argument_bytes arguments) (data-bytes l _ (parts-bytes e.parts zeros parts (λ a. lit< tt))) (arguments-bytes arguments are_words))
          (words-bytes (stack_words l arguments));
      files = are_files;
      descriptors = (e.break_start, refl);
      fresh = refl;
      silent = (refl, refl);
    }
