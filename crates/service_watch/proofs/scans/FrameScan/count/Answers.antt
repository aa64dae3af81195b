use Rattle.std.proofs.Common.{◌≡◌, ◌<◌, ◌++◌, ◌+◌, ℕ, List, length, drop, get_or, add-one, append_assoc, append-nil, drop-cons, sym, subst, ap, ◌∙◌}
use Rattle.std.proofs.Math.ListN.{drop_of_length-le}
use Rattle.service_watch.specs.Counts.{IsTally}
use Rattle.service_watch.specs.Scans.{frames_in, scan_after, frame_of, ended_kind, after_byte}
use Rattle.service_watch.specs.declared.scans.FrameScan.{FrameScan}
use Rattle.service_watch.proofs.scans.FrameScan.count.Goals as goal

-- what is left at a byte is this byte and the rest
next : (s : FrameScan) (bytes : List ℕ) (i : ℕ) → i < length bytes
    → frames_in s (drop i bytes) ≡ frame_of (ended_kind s (get_or bytes i 0)) ++ frames_in (after_byte s (get_or bytes i 0)) (drop (i + 1) bytes)
next s bytes i lt = rw (add-one, drop-cons bytes i 0)

next_scan : (s : FrameScan) (bytes : List ℕ) (i : ℕ) → i < length bytes
    → scan_after s (drop i bytes) ≡ scan_after (after_byte s (get_or bytes i 0)) (drop (i + 1) bytes)
next_scan s bytes i lt = rw (add-one, drop-cons bytes i 0)

pub loop-byte-preserved : goal.loop-byte-preserved
loop-byte-preserved c =
    let e = c.count_byte.ensures in
    let s = c.loop-byte.self in
    let bytes = c.args.bytes.now in
    let i = c.loop-byte.byte-index in
    let more = frame_of (ended_kind s (get_or bytes i 0)) in
    let lt : i < length bytes = c.loop-byte-test.true in
    record {
      tally = λ events is.
          let h = c.loop-byte.invariant.tally events is in (
            h.0 ++ more,
            subst (IsTally c.count_byte.new.counters.counts) (append_assoc events h.0 more) (e.tally (events ++ h.0) h.1),
            append_assoc h.0 more (frames_in c.count_byte.new.self (drop (i + 1) bytes))
                ∙ (ap (λ (k : FrameScan). h.0 ++ (more ++ frames_in k (drop (i + 1) bytes))) e.scan
                ∙ (ap (λ xs. h.0 ++ xs) (sym (next s bytes i lt)) ∙ h.2)),
          );
      scan = ap (λ (k : FrameScan). scan_after k (drop (i + 1) bytes)) e.scan ∙ (sym (next_scan s bytes i lt) ∙ c.loop-byte.invariant.scan);
    }

pub returns-clause-tally : goal.returns-clause-tally
returns-clause-tally c = λ events is.
    let h = c.loop-byte.invariant.tally events is in
    subst (λ xs. IsTally c.loop-byte.counters.counts (events ++ xs))
    (sym (append-nil h.0) ∙ (ap (λ xs. h.0 ++ frames_in c.loop-byte.self xs) (sym (drop_of_length-le c.args.bytes.now c.loop-byte-test.false)) ∙ h.2)) h.1
