-- The text of metrics, as Prometheus reads it.
use Rattle.std.specs.Prelude.{ℕ, List, ◌++◌, codes, decimal, flat_map}
use Rattle.service_watch.specs.declared.metrics.Kind.{Kind}
use Rattle.service_watch.specs.declared.metrics.Kind.TheVariants.{Counter, Gauge, Histogram}
use Rattle.service_watch.specs.declared.metrics.Sample.{Sample}

-- the name of a family's type
abbrev pub kind_name : Kind → List ℕ
kind_name Counter = codes "counter"
kind_name Gauge = codes "gauge"
kind_name Histogram = codes "histogram"

-- the lines before a family's values
abbrev pub family_head : List ℕ → List ℕ → Kind → List ℕ
family_head name help kind =
    codes "# HELP " ++ (name ++ (codes " " ++ (help ++ (codes "\n# TYPE " ++ (name ++ (codes " " ++ (kind_name kind ++ codes "\n")))))))

-- a value's line
abbrev pub sample_text : List ℕ → Sample → List ℕ
sample_text name s = name ++ (s.labels.now ++ (codes " " ++ (decimal s.value ++ (s.exponent.now ++ codes "\n"))))

-- a family's lines
abbrev pub family_text : List ℕ → List ℕ → Kind → List Sample → List ℕ
family_text name help kind samples = family_head name help kind ++ flat_map (sample_text name) samples
