-- How far a file has been read.
use Rattle.spec_base.specs.Layout.{file_limit}
use Rattle.std.proofs.Common.{◌≡◌, inl, inr, ℕ, ◌+◌, ◌*◌, ◌≤◌, ◌<◌, true, false, List, [], ◌∷◌, ◌++◌, length, take, arith, sym, ap, subst, refl, ◌∙◌, Some, None, Option, IfSome, Ok, Err, add-one}
use Rattle.std.proofs.Math.ListN.{replicate}
use Rattle.std.proofs.lemmas.List.{take_all, length-replicate}
use Rattle.std.proofs.Math.Seq.{take-add}
use Rattle.world_io.specs.Outside.{StoreState, Rose, KeepsFiles, Counts}
use Rattle.spec_base.specs.Files.{Files}
use Rattle.world_io.specs.Looks.{LookSays}
use Rattle.world_io.specs.Fetches.{FetchSays}
use Rattle.world_io.specs.Logs.{StoreLog}
use Rattle.world_io.proofs.Stores.{call-StoreLog, none-StoreLog}
use Rattle.world_io.specs.declared.store.Look.TheVariants.{Found, Absent}
use Rattle.world_io.specs.declared.store.Fetch.TheVariants.{Got}
use Rattle.whole_file.specs.Reading.{ReadsWhole, SaysOf, block_count}
use Rattle.whole_file.specs.declared.reading.ReadFault.TheVariants.{Absent as ReadAbsent, TooLong, Failed as ReadFailed, NoMemory}

-- the file as it is told, and what was read of it
abbrev pub HasRead : Option Files → List ℕ → ℕ → ℕ → List ℕ → Type 0
HasRead files name size block bytes =
    IfSome files (λ f. (all : List ℕ) × (f name ≡ Some all) × (length all ≡ size) × (bytes ≡ take (4096 * block) all))

pub record ReadLog (old : StoreState) (name : List ℕ) (size block : ℕ) (bytes : List ℕ) (now : StoreState) : Type 0 where
  pub went : StoreLog old (replicate (block + 1) false) now
  pub file : HasRead old.files name size block bytes

-- a look that failed
pub failed_look-ReadsWhole : (a b : StoreState) (name : List ℕ) → KeepsFiles a b → (Rose a.faults b.faults) → Counts a true b
    → ReadsWhole a name (Err ReadFailed) b
failed_look-ReadsWhole a b name keeps rose counts = record {
  log = true ∷ [];
  went = call-StoreLog a a b [] true (none-StoreLog a) keeps (λ _. rose) counts;
  calls = (0, refl);
  told = by a.files;
}
  where
    by : (o : Option Files) → IfSome o (λ files. SaysOf (files name) (Err ReadFailed) (true ∷ []))
    by None = tt
    by (Some f) = inl refl

-- a look that found no file
pub absent-ReadsWhole : (a b : StoreState) (name : List ℕ) → KeepsFiles a b → Counts a false b
    → IfSome a.files (λ files. LookSays (files name) Absent) → ReadsWhole a name (Err ReadAbsent) b
absent-ReadsWhole a b name keeps counts told = record {
  log = false ∷ [];
  went = call-StoreLog a a b [] false (none-StoreLog a) keeps (λ e. cc) counts;
  calls = refl;
  told = by a.files told;
}
  where
    of : (o : Option (List ℕ)) → LookSays o Absent → o ≡ None
    of None h = refl
    of (Some all) h = absurd h

    by : (o : Option Files) → IfSome o (λ files. LookSays (files name) Absent) → IfSome o (λ files. SaysOf (files name) (Err ReadAbsent) (false ∷ []))
    by None h = tt
    by (Some f) h = of (f name) h

-- a look that found a file
pub found-ReadLog : (a b : StoreState) (name : List ℕ) (size : ℕ) → KeepsFiles a b → Counts a false b
    → IfSome a.files (λ files. LookSays (files name) (Found size)) → ReadLog a name size 0 [] b
found-ReadLog a b name size keeps counts told = record {
  went = call-StoreLog a a b [] false (none-StoreLog a) keeps (λ e. cc) counts;
  file = by a.files told;
}
  where
    of : (o : Option (List ℕ)) → LookSays o (Found size) → (all : List ℕ) × (o ≡ Some all) × (length all ≡ size) × ([] ≡ take (4096 * 0) all)
    of None h = absurd h
    of (Some all) h = (all, refl, sym h, refl)

    by : (o : Option Files) → IfSome o (λ files. LookSays (files name) (Found size)) → HasRead o name size 0 []
    by None h = tt
    by (Some f) h = of (f name) h

-- a file that is too long
pub too_long-ReadsWhole : (a b : StoreState) (name : List ℕ) (size : ℕ) → ReadLog a name size 0 [] b → file_limit < size
    → ReadsWhole a name (Err TooLong) b
too_long-ReadsWhole a b name size log wrong = record {
  log = false ∷ [];
  went = log.went;
  calls = refl;
  told = by a.files log.file;
}
  where
    by : (o : Option Files) → HasRead o name size 0 [] → IfSome o (λ files. SaysOf (files name) (Err TooLong) (false ∷ []))
    by None h = tt
    by (Some f) h = (h.0, h.1, (let same = h.2 in rw same wrong))

-- want of memory
pub starved-ReadsWhole : (a b : StoreState) (name : List ℕ) (size : ℕ) → ReadLog a name size 0 [] b → size ≤ file_limit
    → ReadsWhole a name (Err NoMemory) b
starved-ReadsWhole a b name size log sized = record {
  log = false ∷ [];
  went = log.went;
  calls = refl;
  told = by a.files log.file;
}
  where
    by : (o : Option Files) → HasRead o name size 0 [] → IfSome o (λ files. SaysOf (files name) (Err NoMemory) (false ∷ []))
    by None h = tt
    by (Some f) h = (h.0, h.1, (let same = h.2 in rw same sized))

one_more : (n : ℕ) → false ∷ replicate n false ≡ replicate (n + 1) false
one_more n = rw (add-one n) refl

-- a block more
pub got-ReadLog : (a b c : StoreState) (name : List ℕ) (size block : ℕ) (bytes into : List ℕ) (count : ℕ) → ReadLog a name size block bytes b
    → KeepsFiles b c → Counts b false c → IfSome b.files (λ files. FetchSays (files name) block (Got count) into)
    → ReadLog a name size (block + 1) (bytes ++ take count into) c
got-ReadLog a b c name size block bytes into count log keeps counts told = record {
  went = subst (λ l. StoreLog a l c) (one_more (block + 1)) (call-StoreLog a b c (replicate (block + 1) false) false log.went keeps (λ e. cc) counts);
  file = by a.files log.file (subst (λ o. IfSome o (λ files. FetchSays (files name) block (Got count) into)) log.went.keeps.files told);
}
  where
    by : (o : Option Files) → HasRead o name size block bytes → IfSome o (λ files. FetchSays (files name) block (Got count) into)
        → HasRead o name size (block + 1) (bytes ++ take count into)
    by None h t = tt
    by (Some f) h t =
        let place : 4096 * (block + 1) ≡ 4096 * block + 4096 = omega arith in
        let says : FetchSays (Some h.0) block (Got count) into = rw h.1 at t in
        (h.0, h.1, h.2, rw (h.3, says.1) (sym (ap (λ n. take n h.0) place ∙ take-add (4096 * block) 4096 h.0)))

-- a fetch that failed
pub failed_fetch-ReadsWhole : (a b c : StoreState) (name : List ℕ) (size block : ℕ) (bytes : List ℕ) → ReadLog a name size block bytes b
    → KeepsFiles b c → Rose b.faults c.faults → Counts b true c → size ≤ file_limit → block < block_count size
    → ReadsWhole a name (Err ReadFailed) c
failed_fetch-ReadsWhole a b c name size block bytes log keeps rose counts sized within = record {
  log = true ∷ replicate (block + 1) false;
  went = call-StoreLog a b c (replicate (block + 1) false) true log.went keeps (λ _. rose) counts;
  calls = (block + 1, refl);
  told = by a.files log.file;
}
  where
    by : (o : Option Files) → HasRead o name size block bytes → IfSome o (λ files. SaysOf (files name) (Err ReadFailed) (true ∷ replicate (block + 1) false))
    by None h = tt
    by (Some f) h = inr (h.0, h.1, (let same = h.2 in rw same sized), (let long = length-replicate (block + 1) false in let same = h.2 in rw same (omega arith)))

-- the whole file
pub whole-ReadsWhole : (a b : StoreState) (name : List ℕ) (size block : ℕ) (bytes : List ℕ) → ReadLog a name size block bytes b
    → size ≤ file_limit → block ≡ block_count size → ReadsWhole a name (Ok bytes) b
whole-ReadsWhole a b name size block bytes log sized end = record {
  log = replicate (block + 1) false;
  went = log.went;
  calls = (block, refl);
  told = by a.files log.file;
}
  where
    by : (o : Option Files) → HasRead o name size block bytes → IfSome o (λ files. SaysOf (files name) (Ok bytes) (replicate (block + 1) false))
    by None h = tt
    by (Some f) h =
        let all_is : bytes ≡ h.0 = h.3 ∙ take_all (4096 * block) h.0 (omega (arith, h.2)) in (
          h.1 ∙ ap Some (sym all_is),
          (let same = ap length all_is ∙ h.2 in rw same sized),
          ap (λ n. replicate (n + 1) false) (end ∙ ap block_count (sym (ap length all_is ∙ h.2))),
        )
