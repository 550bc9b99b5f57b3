-- What a store in memory tells (this project's own).
use Rattle.std.specs.Prelude.{Some}
use Rattle.world_io.specs.Outside.{StoreState}
use Rattle.world_io.specs.FileMaps.{told}
use Rattle.world_io.specs.declared.mem_store.MemStore.{MemStore}

-- it tells its files and its numbers
abbrev pub told_of_store : MemStore → StoreState
told_of_store store = record {
  files = Some (told store.files);
  numbers = Some (record { calls = store.calls; fails = store.fails.items });
  faults = store.faults;
}
