-- What the versions of a store give a client.
use Rattle.std.specs.Prelude.{◌≡◌, ◌≤◌, ℕ, List, [], length, Option, Some, None, slice_index_or}
use Rattle.pir_schemes.specs.declared.scheme.Scheme.{Scheme}
use Rattle.pir_schemes.specs.declared.plan.Plan.{Plan}
use Rattle.pir_schemes.specs.Plans.{shape_at, record_of}
use Rattle.pir_schemes.specs.Retrievals.{hint_matrix, query_words, answer_words, reading}
use Rattle.version_store.specs.Histories.{History, current_version, records_of}
use Rattle.server_core.specs.Serving.{Setting}
use Rattle.client_core.specs.declared.state.Hint.{Hint}
use Rattle.pir_world.specs.Runs.{AcceptedAsk}

-- these are the records of a version
abbrev pub HasVersion : History → ℕ → List (List ℕ) → Type 0
HasVersion h v records = (v ≤ current_version h) × (records_of h v ≡ Some records)

-- a version that there is
abbrev pub IsVersion : History → ℕ → Type 0
IsVersion h v = (records : List (List ℕ)) × HasVersion h v records

-- the words of a retrieval's query on some records, for the client's seed
abbrev pub asked_words : Plan → List (List ℕ) → List ℕ → AcceptedAsk → List ℕ
asked_words p records seed r =
    query_words r.scheme (shape_at p (length records)) p.dimension p.seed seed r.number r.index

-- the words of the answer to a retrieval's query on some records, for the client's seed
abbrev pub given_words : Plan → List (List ℕ) → List ℕ → AcceptedAsk → List ℕ
given_words p records seed r = answer_words r.scheme p records (asked_words p records seed r)

-- the record that the answer to a retrieval's query gives on some records, under their hint, made
-- from scratch; none if the answer's digits are no record
abbrev pub record_read : Plan → List (List ℕ) → List ℕ → AcceptedAsk → Option (List ℕ)
record_read p records seed r =
    let l = shape_at p (length records) in
    record_of p (reading r.scheme l (hint_matrix r.scheme p records) seed r.number r.index (given_words p records seed r))

-- the seed of client k
abbrev pub seed_of : List (List ℕ) → ℕ → List ℕ
seed_of seeds k = slice_index_or seeds k []

-- the hint that a client holds is its scheme's of a version, made from scratch
abbrev pub HintIs : Setting → History → Option Hint → Type 0
HintIs x h None = Unit {0}
HintIs x h (Some hint) = (records : List (List ℕ)) × HasVersion h hint.version records × (hint.matrix ≡ hint_matrix hint.scheme x.plan records)

-- the scheme and the version of a hint
abbrev pub name_of_hint : Option Hint → Option (Scheme × ℕ)
name_of_hint None = None
name_of_hint (Some hint) = Some (hint.scheme, hint.version)
