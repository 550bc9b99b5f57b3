-- What is fetched of words decodes to what is fetched of instructions.
use Rattle.std.proofs.Common.{◌≡◌, ℕ, zero, suc, ◌+◌, ◌-◌, ◌*◌, ◌/◌, ◌%◌, ◌^◌, ◌≤◌, ◌<◌, Bool, true, false, ◌&&◌, List, [], ◌∷◌, ◌++◌, length, take, replicate, map, nat_le, ◌==◌, slice_get, None, refl, sym, ap, ◌∙◌, arith, length-append, length-take}
use Rattle.std.specs.Prelude.{flat_map, All, IsTrue}
use Rattle.std.specs.Option.{option_map, option_and_then}
use Rattle.std.proofs.Math.ListN.{length-replicate}
use Rattle.std.proofs.lemmas.Bool.Decides.{nat_tests}
use Rattle.std.proofs.lemmas.Option.{slice_get-map}
use Rattle.std.proofs.lemmas.List.Elements.{All-head, All-tail, All-map, All-weaker}
use Rattle.spec_base.specs.Layout.{shadow_start, helpers_start, stub_start, is_lawful, helper_words, stub_words}
use Rattle.spec_base.specs.declared.layout.Layout.{Layout}
use Rattle.spec_base.specs.declared.machine.View.TheVariants.{Program, Stub, Shadow}
use Rattle.rv_decode.specs.Instruction.{instr_of}
use Rattle.rv_decode.specs.Encoding.{word_of}
use Rattle.rv_decode.specs.declared.instr.Instr.{Instr}
use Rattle.rv_decode.specs.declared.instr.Instr.TheVariants.{Illegal}
use Rattle.rv_model.specs.Effect.{fetched}
use Rattle.rv_model.specs.Space.{shadow_word}
use Rattle.program_model.specs.PlainRun.{text_of}
use Rattle.code_model.specs.Assembly.{ld, X31}
use Rattle.code_model.specs.Patch.{patched_word, patched_instr}
use Rattle.code_model.specs.Blocks.{is_target, blocks_from, with_pad, park_words, words_of}
use Rattle.code_model.specs.Helpers.{helpers}
use Rattle.code_model.specs.Stub.{stub}
use Rattle.run_model.specs.Run.{World, Run, rewritten_text, rewritten_words}
use Rattle.run_model.specs.ShadowMoves.{fetch_shadow, fetch_by}
use Rattle.run_laws.specs.OwnLaws.{Accepted}
use Rattle.machine_laws.specs.OneMachine.{shadow_text, space_of_run, instr_in, FetchesSame, AreWords, CodeIsWords}
use Rattle.machine_laws.proofs.PatchedWords.{patched_decodes, patched-bits}
use Rattle.machine_laws.proofs.Fits.{Each, none, one, joined, words_decode, word-bits}
use Rattle.machine_laws.proofs.Emitted.{stub-has, helpers-have}
use Rattle.machine_laws.proofs.EmittedBlocks.{block-has, guard-has}
use Rattle.std.proofs.lemmas.List.{length-map}

-- ---- words that decode to given instructions

-- a list of words decodes to the instructions
record DecodesTo (words : List ℕ) (code : List Instr) : Type 0 where
  by : map instr_of words ≡ code

-- so does the word that is fetched
fetch-decodes : (words : List ℕ) (code : List Instr) → DecodesTo words code → (start pc : ℕ) → option_map instr_of (fetched words start pc) ≡ fetched code start pc
fetch-decodes words code d start pc = by_test (nat_le start pc && (pc % 4 == 0))
  where
    i : ℕ
    i = (pc - start) / 4

    by_test : (t : Bool) → option_map instr_of (elim t [ true ↦ slice_get words i | false ↦ None ]) ≡ elim t [ true ↦ slice_get code i | false ↦ None ]
    by_test true = sym (slice_get-map instr_of words i) ∙ ap (λ (c : List Instr). slice_get c i) d.by
    by_test false = refl

-- the words of emitted code
emitted-decodes : {code : List Instr} → Each code → map instr_of (map word_of code) ≡ code
emitted-decodes none = refl
emitted-decodes (one {i} {code} h rest) = ap (λ (d : Instr). d ∷ map instr_of (map word_of code)) (words_decode i h).decodes ∙ ap (λ (c : List Instr). i ∷ c) (emitted-decodes rest)

-- the words of the rewritten text
patched-decode : (words : List ℕ) → map instr_of (map patched_word words) ≡ map patched_instr (map instr_of words)
patched-decode [] = refl
patched-decode (word ∷ words) =
    ap (λ (d : Instr). d ∷ map instr_of (map patched_word words)) (patched_decodes word) ∙ ap (λ (c : List Instr). patched_instr (instr_of word) ∷ c) (patched-decode words)

-- ---- the shadow text is its blocks of 16 words

data Sixteens : List (List Instr) → Type 0 where
  no_more : Sixteens []
  and : {words : List Instr} {blocks : List (List Instr)} → length words ≡ 16 → Sixteens blocks → Sixteens (words ∷ blocks)

-- a list that is filled up is long enough for its first n
taken-length : (n m : ℕ) (first : Instr) (words : List Instr) → n ≤ m + 1 → length (take n (first ∷ (words ++ replicate m Illegal))) ≡ n
taken-length n m first words h = omega (arith, length-take {A = Instr}, length-append {A = Instr}, length-replicate {A = Instr})

padded-length : (words : List Instr) → length (with_pad words) ≡ 16
padded-length words = taken-length 16 15 (ld 31 X31 0) words (omega arith)

blocks-in_sixteens : (l : Layout) (p : ℕ) (text : List Instr) → Sixteens (blocks_from l p text)
blocks-in_sixteens l p [] = and (padded-length park_words) no_more
blocks-in_sixteens l p (i ∷ text) = and (padded-length (words_of l p i)) (blocks-in_sixteens l (p + 4) text)

-- the front of a joined list, and its rest
front-get : (words rest : List Instr) (k : ℕ) → k < length words → slice_get (words ++ rest) k ≡ slice_get words k
front-get [] rest k h = absurd (omega arith)
front-get (i ∷ words) rest zero h = refl
front-get (i ∷ words) rest (suc k) h = front-get words rest k (omega arith)

rest-get : (words rest : List Instr) (k n : ℕ) → k ≡ length words + n → slice_get (words ++ rest) k ≡ slice_get rest n
rest-get [] rest k n e = ap (slice_get rest) (omega arith)
rest-get (i ∷ words) rest zero n e = absurd (omega arith)
rest-get (i ∷ words) rest (suc k) n e = rest-get words rest k n (omega arith)

-- word k of the text is word k % 16 of block k / 16
block-get :
    (blocks : List (List Instr)) → Sixteens blocks → (k b j : ℕ) → k ≡ 16 * b + j → j < 16 →
    slice_get (flat_map (λ words. words) blocks) k ≡ option_and_then (λ words. slice_get words j) (slice_get blocks b)
block-get [] no_more k b j e h = refl
block-get (words ∷ blocks) (and l s) k zero j e h = ap (slice_get (words ++ flat_map (λ words. words) blocks)) (omega arith) ∙ front-get words (flat_map (λ words. words) blocks) j (omega arith)
block-get (words ∷ blocks) (and l s) k (suc b) j e h = rest-get words (flat_map (λ words. words) blocks) k (16 * b + j) (omega arith) ∙ block-get blocks s (16 * b + j) b j refl h

-- so many words
text-length : {blocks : List (List Instr)} → Sixteens blocks → length (flat_map (λ words. words) blocks) ≡ 16 * length blocks
text-length no_more = refl
text-length (and l s) = omega (arith, length-append {A = Instr}, text-length s)

blocks-length : (l : Layout) (p : ℕ) (text : List Instr) → length (blocks_from l p text) ≡ length text + 1
blocks-length l p [] = refl
blocks-length l p (i ∷ text) = omega (arith, blocks-length l (p + 4) text)

-- ---- the shadow text has words

-- an address of the text's words
target-in : (l : Layout) (p n : ℕ) → l.text_start ≤ p → p % 4 ≡ 0 → l.text_end ≡ p + 4 * suc n → IsTrue (is_target l p)
target-in l p n s e f = grind (arith, nat_tests)

-- the blocks of the words from p on, up to the end of the text
blocks-have :
    (l : Layout) → IsTrue (is_lawful l) → (words : List ℕ) (p : ℕ) → l.text_start ≤ p → p % 4 ≡ 0 → l.text_end ≡ p + 4 * length words →
    All (λ word. word < 2 ^ 32) words → Each (flat_map (λ block. block) (blocks_from l p (map instr_of words)))
blocks-have l lawful [] p s e f h = joined guard-has none
blocks-have l lawful (word ∷ words) p s e f h =
    joined (block-has l lawful p word (target-in l p (length words) s e f) (All-head (λ word. word < 2 ^ 32) word words h))
    (blocks-have l lawful words (p + 4) (omega arith) (omega arith) (omega arith) (All-tail (λ word. word < 2 ^ 32) word words h))

shadow-has : (w : World) → Accepted w → Each (shadow_text w)
shadow-has w a =
    let e : w.image.layout.text_start % 4 ≡ 0 = grind (arith, nat_tests, a.lawful) in
    blocks-have w.image.layout a.lawful w.image.words w.image.layout.text_start (omega arith) e a.text a.words

-- ---- each view's fetch

module _ (w : World) (r : Run) (pc : ℕ) where
  program-fetch : fetched (rewritten_text w) w.image.layout.text_start pc ≡ instr_in Program (space_of_run w r) pc
  unfolding space_of_run
  program-fetch = sym (fetch-decodes (rewritten_words w) (rewritten_text w) (record { by = patched-decode w.image.words }) w.image.layout.text_start pc)

  stub-fetch : fetched stub stub_start pc ≡ instr_in Stub (space_of_run w r) pc
  unfolding space_of_run
  stub-fetch = sym (fetch-decodes (map word_of stub) stub (record { by = emitted-decodes stub-has }) stub_start pc)

  -- the shadow fetches a block's word by its number in the text
  block-fetch :
      (t : Bool) → (nat_le shadow_start pc && (pc % 4 == 0)) ≡ t →
      fetch_by false t w pc ≡ elim t [ true ↦ slice_get (shadow_text w) ((pc - shadow_start) / 4) | false ↦ None ]
  block-fetch true e =
      let start : shadow_start ≤ pc = grind (arith, nat_tests) in
      let blocks : List (List Instr) = blocks_from w.image.layout w.image.layout.text_start (text_of w.image) in
      let s : Sixteens blocks = blocks-in_sixteens w.image.layout w.image.layout.text_start (text_of w.image) in
      sym (block-get blocks s ((pc - shadow_start) / 4) ((pc - shadow_start) / 64) ((pc % 64) / 4) (omega arith) (omega arith))
  block-fetch false e = refl

  shadow-fetch : Accepted w → fetch_shadow w pc ≡ instr_in Shadow (space_of_run w r) pc
  unfolding space_of_run
  shadow-fetch a = by_part (nat_le helpers_start pc)
    where
      t : Bool
      t = nat_le shadow_start pc && (pc % 4 == 0)

      by_part : (b : Bool) → fetch_by b t w pc ≡ option_map instr_of (shadow_word b (space_of_run w r) pc)
      by_part true = sym (fetch-decodes (map word_of (helpers w.image.layout)) (helpers w.image.layout) (record { by = emitted-decodes (helpers-have w.image.layout) }) helpers_start pc)
      by_part false = block-fetch t refl ∙ sym (fetch-decodes (map word_of (shadow_text w)) (shadow_text w) (record { by = emitted-decodes (shadow-has w a) }) shadow_start pc)

pub fetches_same : FetchesSame
fetches_same w a r pc = record { program = program-fetch w r pc; stub = stub-fetch w r pc; shadow = shadow-fetch w r pc a }

-- ---- the code as a whole

-- each word that is patched has 32 bits
text-bits : (words : List ℕ) → All (λ word. word < 2 ^ 32) words → All (λ word. word < 2 ^ 32) (map patched_word words)
text-bits words h = All-map (λ word. word < 2 ^ 32) patched_word words (All-weaker (λ word. word < 2 ^ 32) (λ word. patched_word word < 2 ^ 32) patched-bits words h)

module _ (w : World) (a : Accepted w) (r : Run) where
  text-words : AreWords (space_of_run w r).text (length w.image.words)
  unfolding space_of_run
  text-words = record { as_many = length-map w.image.words patched_word; bits = text-bits w.image.words a.words }

  shadow-words : AreWords (space_of_run w r).shadow (16 * (length w.image.words + 1))
  unfolding space_of_run
  shadow-words =
      let l : Layout = w.image.layout in
      let blocks : List (List Instr) = blocks_from l l.text_start (text_of w.image) in
      let e : length (shadow_text w) ≡ 16 * length blocks = text-length (blocks-in_sixteens l l.text_start (text_of w.image)) in
      let n : length blocks ≡ length (text_of w.image) + 1 = blocks-length l l.text_start (text_of w.image) in
      let m : length (text_of w.image) ≡ length w.image.words = length-map w.image.words instr_of in
      let k : length (map word_of (shadow_text w)) ≡ length (shadow_text w) = length-map (shadow_text w) word_of in
      record { as_many = k ∙ e ∙ ap (λ (i : ℕ). 16 * i) (n ∙ ap (λ (i : ℕ). i + 1) m); bits = word-bits (shadow-has w a) }

  helpers-words : AreWords (space_of_run w r).helpers helper_words
  unfolding space_of_run
  helpers-words = record { as_many = length-map (helpers w.image.layout) word_of; bits = word-bits (helpers-have w.image.layout) }

  stub-words : AreWords (space_of_run w r).stub stub_words
  unfolding space_of_run
  stub-words = record { as_many = length-map stub word_of; bits = word-bits stub-has }

pub code_is_words : CodeIsWords
code_is_words w a r = record { text = text-words w a r; shadow = shadow-words w a r; helpers = helpers-words w a r; stub = stub-words w a r }
