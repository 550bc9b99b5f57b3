-- Words that are given one by one.
use Rattle.std.proofs.Common.{◌≡◌, ℕ, ◌+◌, ◌*◌, ◌<◌, Bool, true, false, List, ◌++◌, length, take, drop, get_or, arith, sym, ap, subst, ◌∙◌, add-one}
use Rattle.std.proofs.lemmas.Grind.{flat_map-append}
use Rattle.std.proofs.lemmas.List.{take-append-drop, drop-drop}
use Rattle.std.proofs.Math.Seq.{drop-cons}
use Rattle.world_io.specs.Outside.{SinkState}
use Rattle.elf_writer.specs.Headers.{word}
use Rattle.elf_writer.specs.RewrittenFile.{word_bytes}
use Rattle.elf_writer.specs.Streams.{Gives}
use Rattle.elf_writer.proofs.StreamLemmas.{Toward, step-Toward, stop-Toward}

-- the bytes of words from one on
word_bytes-drop : (words : List ℕ) (i : ℕ) → i < length words → word_bytes (drop i words) ≡ word (get_or words i 0) ++ word_bytes (drop (i + 1) words)
word_bytes-drop words i h = ap word_bytes (drop-cons words i 0 h) ∙ ap (λ n. word (get_or words i 0) ++ word_bytes (drop n words)) (sym (add-one i))

-- the next word was given
pub word-Toward : (size n : ℕ) (held : List ℕ) (a b c : SinkState) (words : List ℕ) (i x : ℕ) (middle last : List ℕ)
    → Toward size held a (word_bytes words) (word_bytes (drop i words)) middle b → n ≡ size → i < length words → x ≡ get_or words i 0
    → Gives n middle b (word x) true last c → Toward size held a (word_bytes words) (word_bytes (drop (i + 1) words)) last c
word-Toward size n held a b c words i x middle last toward e few is gives =
    step-Toward size n held a b c (word_bytes words) (word (get_or words i 0)) (word_bytes (drop (i + 1) words)) middle last
    (subst (λ r. Toward size held a (word_bytes words) r middle b) (word_bytes-drop words i few) toward) e
    (subst (λ y. Gives n middle b (word y) true last c) is gives)

-- a put failed in the next word
pub stop_word-Toward : (size n : ℕ) (held : List ℕ) (a b c : SinkState) (words : List ℕ) (i x : ℕ) (middle last : List ℕ)
    → Toward size held a (word_bytes words) (word_bytes (drop i words)) middle b → n ≡ size → i < length words → x ≡ get_or words i 0
    → Gives n middle b (word x) false last c → (whole : Bool) → whole ≡ false → Gives size held a (word_bytes words) whole last c
stop_word-Toward size n held a b c words i x middle last toward e few is gives whole failed =
    stop-Toward size n held a b c (word_bytes words) (word (get_or words i 0)) (word_bytes (drop (i + 1) words)) middle last
    (subst (λ r. Toward size held a (word_bytes words) r middle b) (word_bytes-drop words i few) toward) e
    (subst (λ y. Gives n middle b (word y) false last c) is gives) whole failed

-- the bytes of blocks of n words from one on
word_bytes-block : (words : List ℕ) (n i : ℕ) → word_bytes (drop (n * i) words) ≡ word_bytes (take n (drop (n * i) words)) ++ word_bytes (drop (n * (i + 1)) words)
word_bytes-block words n i =
    let next : drop n (drop (n * i) words) ≡ drop (n * (i + 1)) words = drop-drop n (n * i) words ∙ ap (λ k. drop k words) (grind arith) in
    ap word_bytes (sym (take-append-drop n (drop (n * i) words))) ∙ flat_map-append word (take n (drop (n * i) words)) (drop n (drop (n * i) words))
    ∙ ap (λ w. word_bytes (take n (drop (n * i) words)) ++ word_bytes w) next

-- the next block was given
pub block-Toward : (size n : ℕ) (held : List ℕ) (a b c : SinkState) (words block : List ℕ) (k i : ℕ) (middle last : List ℕ)
    → Toward size held a (word_bytes words) (word_bytes (drop (k * i) words)) middle b → n ≡ size → block ≡ take k (drop (k * i) words)
    → Gives n middle b (word_bytes block) true last c → Toward size held a (word_bytes words) (word_bytes (drop (k * (i + 1)) words)) last c
block-Toward size n held a b c words block k i middle last toward e is gives =
    step-Toward size n held a b c (word_bytes words) (word_bytes (take k (drop (k * i) words))) (word_bytes (drop (k * (i + 1)) words)) middle last
    (subst (λ r. Toward size held a (word_bytes words) r middle b) (word_bytes-block words k i) toward) e
    (subst (λ y. Gives n middle b (word_bytes y) true last c) is gives)

-- a put failed in the next block
pub stop_block-Toward : (size n : ℕ) (held : List ℕ) (a b c : SinkState) (words block : List ℕ) (k i : ℕ) (middle last : List ℕ)
    → Toward size held a (word_bytes words) (word_bytes (drop (k * i) words)) middle b → n ≡ size → block ≡ take k (drop (k * i) words)
    → Gives n middle b (word_bytes block) false last c → (whole : Bool) → whole ≡ false → Gives size held a (word_bytes words) whole last c
stop_block-Toward size n held a b c words block k i middle last toward e is gives whole failed =
    stop-Toward size n held a b c (word_bytes words) (word_bytes (take k (drop (k * i) words))) (word_bytes (drop (k * (i + 1)) words)) middle last
    (subst (λ r. Toward size held a (word_bytes words) r middle b) (word_bytes-block words k i) toward) e
    (subst (λ y. Gives n middle b (word_bytes y) false last c) is gives) whole failed
