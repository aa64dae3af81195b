-- The file of a hint of which only the first parts are there. Its layout is that of the whole file,
-- so that it becomes one in its place.
use Rattle.std.specs.Prelude.{◌≡◌, ◌≤◌, ◌*◌, ℕ, List, ◌++◌, codes, replicate}
use Rattle.matrix_u32.specs.Matrix.{most_words}
use Rattle.digit_pack.specs.Layout.{IsLayout}
use Rattle.pir_schemes.specs.declared.scheme.Scheme.{Scheme}
use Rattle.pir_schemes.specs.Retrievals.{hint_rows}
use Rattle.client_core.specs.declared.state.ServerInfo.{ServerInfo}
use Rattle.client_core.specs.States.{shape_known}
use Rattle.hint_file.specs.declared.heads.HintFields.{HintFields}
use Rattle.hint_file.specs.declared.heads.KeptHead.{KeptHead}
use Rattle.hint_file.specs.Files.{field_bytes, part_count}

-- what a partial file begins with, in ASCII
unfoldable pub partial_magic : List ℕ
partial_magic = codes "PIRPART1"

-- what comes before the digests in a partial file: its kind, and which hint it is to have. The
-- parts of a file that begins so are those of one version of one store in one scheme.
abbrev pub partial_front : HintFields → List ℕ
partial_front f = partial_magic ++ field_bytes f

-- the fields of the hint of the version known, in a scheme
abbrev pub fields_to_fetch : ServerInfo → Scheme → HintFields
fields_to_fetch now scheme = record {
  known = now;
  scheme = scheme;
  version = now.version;
  rows = hint_rows scheme (shape_known now) now.plan.dimension;
  cols = now.plan.dimension;
}

-- what is known has a layout, and a hint in a scheme
pub record CanBeFetched (now : ServerInfo) (scheme : Scheme) : Type 0 where
  pub layout : IsLayout (shape_known now)
  pub dimension : now.plan.dimension ≤ 1024
  pub small : hint_rows scheme (shape_known now) now.plan.dimension * now.plan.dimension ≤ most_words

-- the head of a hint of which no part has come: zeros in place of the digests
pub record IsToFetch (now : ServerInfo) (scheme : Scheme) (head : KeptHead) : Type 0 where
  pub layout : IsLayout (shape_known now)
  pub fields : head.fields ≡ fields_to_fetch now scheme
  pub digests : head.digests.items ≡ replicate (32 * part_count (4 * (head.fields.rows * head.fields.cols))) 0
