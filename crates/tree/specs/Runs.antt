-- The tests of a file's tree as running results over its extents and nodes.
use Rattle.std.specs.Prelude.{ℕ, ◌+◌, ◌-◌, true, cond, not, ◌&&◌, List, [], ◌∷◌, length, eqb, leb, ltb, Option, Some, None}
use Rattle.spec.specs.declared.Extent.{Extent}
use Rattle.spec.specs.declared.DiskBlock.{DiskBlock}
use Rattle.spec.specs.Disk.{Disk, disk_block, in_data}
use Rattle.spec.specs.Inode.{slots_at, used, counts}
use Rattle.spec.specs.Sound.{slots_packed, extent_inside}
use Rattle.tree.specs.declared.ExtentTests.{ExtentTests}
use Rattle.tree.specs.declared.NodeTests.{NodeTests}

-- block k of the file, if the next extent holds it
unfoldable pub tail_at : ℕ → ExtentTests → Extent → Option DiskBlock
tail_at k r e = cond (leb r.blocks k && ltb k (r.blocks + e.count)) (Some (disk_block (e.first + (k - r.blocks)))) r.tail

-- one more extent, some more
unfoldable pub with_extent : ℕ → ℕ → ExtentTests → Extent → ExtentTests
with_extent N k r e =
    record {
      inside = r.inside && extent_inside N e;
      apart = r.apart && not (ltb 0 r.extents && eqb e.first r.end);
      end = e.first + e.count;
      extents = r.extents + 1;
      blocks = r.blocks + e.count;
      tail = tail_at k r e;
    }

unfoldable pub over_extents : ℕ → ℕ → ExtentTests → List Extent → ExtentTests
over_extents N k r [] = r
over_extents N k r (e ∷ es) = over_extents N k (with_extent N k r e) es

abbrev pub no_run : ExtentTests
no_run = record { inside = true; apart = true; end = 0; extents = 0; blocks = 0; tail = None }

-- one more node, named by a slot, and some more
unfoldable pub with_node : ℕ → ℕ → Disk → NodeTests → Extent → NodeTests
with_node N k v f e =
    record {
      run = over_extents N k f.run (used (slots_at v e.first));
      sound = f.sound && (in_data N e.first && slots_packed (slots_at v e.first));
      agree = f.agree && eqb e.count (counts (used (slots_at v e.first)));
      filled = f.filled && f.full;
      full = eqb (length (used (slots_at v e.first))) 128;
      tops = f.tops + 1;
      counts = f.counts + e.count;
    }

unfoldable pub over_nodes : ℕ → ℕ → Disk → NodeTests → List Extent → NodeTests
over_nodes N k v f [] = f
over_nodes N k v f (e ∷ es) = over_nodes N k v (with_node N k v f e) es

-- no node, and these extents
abbrev pub flat : ExtentTests → NodeTests
flat r = record { run = r; sound = true; agree = true; filled = true; full = true; tops = 0; counts = r.blocks }

abbrev pub no_nodes : NodeTests
no_nodes = record { run = no_run; sound = true; agree = true; filled = true; full = true; tops = 0; counts = 0 }
