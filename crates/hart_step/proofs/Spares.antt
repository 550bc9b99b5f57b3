-- A step that stores nothing uses no spare frame.
use Rattle.std.proofs.Common.{refl}
use Rattle.hart_mem.specs.Held.{Held, UsesSpare}
use Rattle.hart_mem.proofs.MemLemmas.{UsesSpare-same}

pub unused : (h : Held) → UsesSpare h h
unused h = UsesSpare-same h h refl
