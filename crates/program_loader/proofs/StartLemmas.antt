-- The argument and the stack stand in data.
use Rattle.std.proofs.Common.{◌≡◌, ℕ, zero, suc, ◌+◌, ◌-◌, ◌/◌, ◌<◌, ◌≤◌, Bool, true, false, not, ◌&&◌, nat_le, nat_lt, IsTrue, List, length, Some, refl, ap, sym, ◌∙◌, arith, lit≤}
use Rattle.std.proofs.lemmas.Bool.Decides.{nat_tests}
use Rattle.spec_base.specs.Layout.{range_end, image_limit, is_lawful}
use Rattle.spec_base.specs.declared.layout.Layout.{Layout}
use Rattle.spec_base.specs.declared.layout.Version.{Version}
use Rattle.spec_base.specs.declared.layout.Version.TheVariants.{One, Two}
use Rattle.rv_model.specs.Memory.{all_from}
use Rattle.rv_model.specs.Rights.{is_data}
use Rattle.elf_image.specs.Image.{words_at, words_in, file_place, text_words}
use Rattle.rv_model.specs.Memory.{written}
use Rattle.rv_model.specs.Space.{Space}
use Rattle.program_model.specs.Loading.{Executable, loaded_image, argument_bytes, arguments_start, stack_start, stack_words, bytes_of_words}
use Rattle.spec_base.specs.declared.machine.View.TheVariants.{Plain}
use Rattle.program_model.specs.Descriptors.{Descriptors}
use Rattle.hart_step.specs.Core.{Core}
use Rattle.plain_runner.specs.Turns.{IsStart}
use Rattle.program_loader.specs.Programs.{start_space, IsLoaded}
use Rattle.elf_image.specs.Profile.{code_of}
use Rattle.elf_image.specs.declared.image.Image.{Image}
use Rattle.elf_image.specs.declared.segments.Segment.{Segment}

limit_above : (v : Version) → 0x1000 ≤ image_limit v
limit_above One = lit≤ tt
limit_above Two = lit≤ tt

text_below : (l : Layout) → IsTrue (is_lawful l) → l.text_end ≤ image_limit l.version
text_below l h = grind (arith, nat_tests)

data_byte : (l : Layout) (a : ℕ) → l.text_end ≤ image_limit l.version → image_limit l.version ≤ a → a < range_end l.version → is_data l a ≡ true
data_byte l a below above past =
    let low = limit_above l.version in
    let from : nat_le 0x1000 a ≡ true = grind (arith, nat_tests) in
    let to : nat_lt a (range_end l.version) ≡ true = grind (arith, nat_tests) in
    let off : nat_lt a l.text_end ≡ false = grind (arith, nat_tests) in
    by (nat_le l.text_start a) (nat_le 0x1000 a) (nat_lt a (range_end l.version)) (nat_lt a l.text_end) from to off
  where
    by : (s f t o : Bool) → f ≡ true → t ≡ true → o ≡ false → ((f && t) && not (s && o)) ≡ true
    by true f t o e g h = rw (e, g, h) refl
    by false f t o e g h = rw (e, g) refl

data_run : (l : Layout) (n a : ℕ) → l.text_end ≤ image_limit l.version → image_limit l.version ≤ a → a + n ≤ range_end l.version → all_from (is_data l) a n ≡ true
unfolding all_from
data_run l zero a below above past = refl
data_run l (suc n) a below above past =
    let here : is_data l a ≡ true = data_byte l a below above (omega (arith, past)) in
    rw here (data_run l n (a + 1) below (omega (arith, above)) (omega (arith, past)))

-- bytes past every image are data
pub start-data : (l : Layout) → IsTrue (is_lawful l) → (a n : ℕ) → image_limit l.version ≤ a → a + n ≤ range_end l.version → IsTrue (all_from (is_data l) a n)
start-data l lawful a n above past = data_run l n a (text_below l lawful) above past

-- ---- the words of the text

words_at-count : (offset n : ℕ) (bytes : List ℕ) → length (words_at offset n bytes) ≡ n
words_at-count offset zero bytes = refl
words_at-count offset (suc n) bytes = ap suc (words_at-count (offset + 4) n bytes)

-- there are as many as the layout says
pub text-count : (bytes : List ℕ) (image : Image) (s : Segment) → code_of image.segments ≡ Some s → length (text_words bytes image) ≡ (image.text_end - image.text_start) / 4
unfolding text_words
text-count bytes image s e = ap (λ o. length (words_in o bytes image)) e ∙ words_at-count (file_place s image.text_start) ((image.text_end - image.text_start) / 4) bytes

-- ---- the arguments and the stack

-- a MiB lies between the images and the end of the program range
pub mebibyte : (v : Version) → image_limit v + 0x10_0000 ≡ range_end v
mebibyte One = refl
mebibyte Two = refl

-- the arguments leave most of it
pub room : (v : Version) (end total : ℕ) → end ≡ range_end v → total ≤ 65_536 → (image_limit v + 983_040 ≤ end - total) × (end - total + total ≡ end)
room v end total e short = let wide = mebibyte v in (omega (arith, wide, e, short), omega (arith, wide, e, short))

-- the memory after both were written
pub start-is : (s s1 s2 : Space) (arguments : List (List ℕ)) (a st : ℕ) (bs cs : List ℕ) → a ≡ arguments_start s.layout arguments → bs ≡ argument_bytes arguments
    → st ≡ stack_start s.layout arguments → cs ≡ bytes_of_words (stack_words s.layout arguments) → s1 ≡ record s { program = written s.program a bs }
    → s2 ≡ record s1 { program = written s1.program st cs } → s2 ≡ start_space s arguments
start-is s s1 s2 arguments a st bs cs a-is bs-is st-is cs-is e f =
    f ∙ (ap (λ (m : Space). record m { program = written m.program st cs }) e
    ∙ (λ i. record s { program = written (written s.program (a-is i) (bs-is i)) (st-is i) (cs-is i) }))

-- ---- a program by itself

-- what is loaded for a hart in the Plain view is at its start
pub starts : (e : Executable) (arguments : List (List ℕ)) (core : Core) (space : Space) (f : Descriptors)
    → IsLoaded e arguments Plain core space f → IsStart (loaded_image e arguments) core space f
starts e arguments core space f h =
    record {
      shows = record {
        view = ap (λ (k : Core). k.view) h.core_is;
        registers = sym (ap (λ (k : Core). k.registers) h.core_is);
        pc = sym (ap (λ (k : Core). k.pc) h.core_is);
        memory = sym (ap (λ (s : Space). s.program) h.space_is);
        files = sym h.files_are;
        exited = refl;
        layout = ap (λ (s : Space). s.layout) h.space_is;
        words = ap (λ (s : Space). s.text) h.space_is;
      };
      out = refl;
      err = refl;
    }
