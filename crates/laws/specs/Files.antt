-- All that the cut rule asks of files, and with it the cut rule. Assumes nothing.
use Rattle.std.specs.Prelude.{ℕ, ◌+◌, ◌≤◌, ◌≡◌, false, not, List, length}
use Rattle.std.proofs.Common.{sym, ap, ◌∙◌, arith, ltb-false}
use Rattle.spec.specs.Layout.{fewest_blocks, most_blocks, bitmap_block, name_size, max_file_size}
use Rattle.spec.specs.Disk.{Disk}
use Rattle.spec.specs.Inode.{is_name, inode_bytes}
use Rattle.spec.specs.Map.{files_of}
use Rattle.spec.specs.Transaction.{State, view}
use Rattle.spec.specs.Calls.{Change, Create, Remove, Rename, Write, SetSize, Do, step}
use Rattle.spec.specs.Plain.{Plain}
use Rattle.spec.specs.Refusals.{wrong_name, over_limit}
use Rattle.spec.specs.CutRule.{CutRule}
use Rattle.lists.specs.Tests.{both_true}
use Rattle.logs.specs.Stores.{Whole}
use Rattle.crash.specs.Interface.{Plans, FileLayer}
use Rattle.crash.specs.Tests.{one_name, two-names}
use Rattle.crash.proofs.Theorem.{cut-rule}
use Rattle.laws.specs.Bytes.{below-drop, record-small}
use Rattle.laws.specs.Good.{Good}
use Rattle.laws.specs.Volume.{volume-sound, own_name}
use Rattle.laws.specs.Local.{local-sound, local-bytes, local-files}
use Rattle.laws.specs.Free.{free-count}
use Rattle.laws.specs.Content.{file-length}
use Rattle.laws.specs.Empty.{empty-good, empty-files}
use Rattle.laws.specs.Create.{create-plans}
use Rattle.laws.specs.Remove.{remove-plans}
use Rattle.laws.specs.Rename.{rename-plans}
use Rattle.laws.specs.Write.{write-plans, set-size-plans}

module _ (N : ℕ) (lo : fewest_blocks ≤ N) (hi : N ≤ most_blocks) (p : Plain) (s : State) (whole : Whole (view s)) (g : Good N (view s))
    (maps : (name : List ℕ) → files_of (view s) name ≡ p.working name)
  where
    -- every change is refused as the sentences tell, or makes of the files what they tell
    pub plans : (c : Change) → wrong_name (Do c) ≡ false → over_limit (Do c) ≡ false → Plans N (Good N) p s c
    plans (Create name) right fits = create-plans N lo hi p s whole g maps name (sym (one_name (is_name name)) ∙ ap not right)
    plans (Remove name) right fits = remove-plans N lo hi p s whole g maps name (sym (one_name (is_name name)) ∙ ap not right)
    plans (Rename name new) right fits =
        let both = both_true (is_name name) (is_name new) (sym (two-names (is_name name) (is_name new)) ∙ ap not right) in
        rename-plans N lo hi p s whole g maps name new both.0 both.1
    plans (Write name x bytes) right fits =
        write-plans N lo hi p s whole g maps name (sym (one_name (is_name name)) ∙ ap not right) x bytes (ltb-false max_file_size (x + length bytes) fits)
    plans (SetSize name size) right fits =
        set-size-plans N lo hi p s whole g maps name (sym (one_name (is_name name)) ∙ ap not right) size (ltb-false max_file_size size fits)

pub files : FileLayer
files N lo hi =
    record {
      fewest = lo;
      most = hi;
      Good = Good N;
      is-sound = λ v g. (volume-sound N v).1 g.sound;
      start = λ v whole small t. record {
        sound = (volume-sound N v).0 t;
        table = small bitmap_block;
        files = λ i h. record { record-bytes = below-drop 256 name_size (inode_bytes v i) (record-small v i small); node-bytes = λ e b o. small b };
      };
      good-local = λ v w p q kept g. record {
        sound = local-sound N v w kept g.sound;
        table = rw (kept bitmap_block (omega arith)) g.table;
        files = λ i h. local-bytes N v w kept g.sound i h (g.files i h);
      };
      files-local = λ v w p q kept g. local-files N v w kept g.sound;
      empty = empty-good N (omega arith) hi;
      no-files = empty-files N;
      own_name = λ v whole g. own_name N v g.sound;
      long = λ v whole g. file-length N v whole g.sound;
      free = λ v whole g. free-count N v (omega arith) hi whole g.sound;
      plans = plans N lo hi;
    }

-- Demand 3: the cut rule of the store that `step` is, with nothing assumed
pub crash-safe : CutRule step
crash-safe = cut-rule files

-- what `files` calls good
pub files-good : (N : ℕ) (lo : fewest_blocks ≤ N) (hi : N ≤ most_blocks) (v : Disk) → (files N lo hi).Good v → Good N v
unfolding files
files-good N lo hi v g = g
