-- The event with which a command's last call ends.
use Rattle.std.proofs.Common.{ℕ, List, Option, Result, Ok, Err, subst}
use Rattle.std.specs.Prelude.{IfOk}
use Rattle.client_core.specs.declared.state.ClientState.{ClientState}
use Rattle.client_core.specs.declared.state.Event.{Event}
use Rattle.client_core.specs.declared.state.Event.TheVariants as event
use Rattle.client_core.specs.Calls.{ClientCall, Ask, Edit, Append, Publish, state_after_call}
use Rattle.client_core.specs.Endings.{Ends}
use Rattle.client_core.specs.Feeding.{Client}
use Rattle.client_commands.specs.declared.fault.CommandError.{CommandError}
use Rattle.client_commands.specs.Transcripts.{most_reads, IsSuccess, Exchanges, ComesTo, IsRecordAsked, IsDoneVersion}
use Rattle.client_commands.proofs.Conversations.{event_ends_the_call}

-- the event of a call ends it
ends : (want : ClientCall) (old : Client) (event : Event) (read out : List ℕ) (left : Option (List ℕ)) (new : Client)
    → Exchanges old want (Ok event) read out left new → Ends (state_after_call want old.state).call event
ends want old event read out left new x =
    subst (λ (c : ClientState). Ends c.call event) x.accepted.state (event_ends_the_call x.called x.first most_reads event read out left new x.answered.1)

retrieved_ends : (i : ℕ) (c : ClientState) (e : Event) → IsSuccess e → Ends (state_after_call (Ask i) c).call e → IsRecordAsked i e
retrieved_ends i c (event.Retrieved index of bytes) done h = h.0
retrieved_ends i c (event.Unreadable index of) done h = absurd done
retrieved_ends i c (event.Stale of) done h = absurd done
retrieved_ends i c (event.Refused code) done h = absurd done
retrieved_ends i c (event.Welcomed of) done h = absurd h
retrieved_ends i c (event.Synced scheme of) done h = absurd h
retrieved_ends i c (event.Done of) done h = absurd h

version_of_edit : (i : ℕ) (bytes : List ℕ) (c : ClientState) (e : Event) → IsSuccess e → Ends (state_after_call (Edit i bytes) c).call e → IsDoneVersion e
version_of_edit i b c (event.Done of) done h = tt
version_of_edit i b c (event.Retrieved index of bytes) done h = absurd h
version_of_edit i b c (event.Unreadable index of) done h = absurd done
version_of_edit i b c (event.Stale of) done h = absurd done
version_of_edit i b c (event.Refused code) done h = absurd done
version_of_edit i b c (event.Welcomed of) done h = absurd h
version_of_edit i b c (event.Synced scheme of) done h = absurd h

version_of_addition : (bytes : List ℕ) (c : ClientState) (e : Event) → IsSuccess e → Ends (state_after_call (Append bytes) c).call e → IsDoneVersion e
version_of_addition b c (event.Done of) done h = tt
version_of_addition b c (event.Retrieved index of bytes) done h = absurd h
version_of_addition b c (event.Unreadable index of) done h = absurd done
version_of_addition b c (event.Stale of) done h = absurd done
version_of_addition b c (event.Refused code) done h = absurd done
version_of_addition b c (event.Welcomed of) done h = absurd h
version_of_addition b c (event.Synced scheme of) done h = absurd h

version_of_publication : (c : ClientState) (e : Event) → IsSuccess e → Ends (state_after_call Publish c).call e → IsDoneVersion e
version_of_publication c (event.Done of) done h = tt
version_of_publication c (event.Retrieved index of bytes) done h = absurd h
version_of_publication c (event.Unreadable index of) done h = absurd done
version_of_publication c (event.Stale of) done h = absurd done
version_of_publication c (event.Refused code) done h = absurd done
version_of_publication c (event.Welcomed of) done h = absurd h
version_of_publication c (event.Synced scheme of) done h = absurd h

-- an ask that was done ends with the record asked for
pub ask_ends : (i : ℕ) (old : Client) (result : Result Event CommandError) (read out : List ℕ) (left : Option (List ℕ)) (new : Client)
    → ComesTo old (Ask i) result read out left new → IfOk result (IsRecordAsked i)
ask_ends i old (Ok e) read out left new x = retrieved_ends i old.state e x.answered.0 (ends (Ask i) old e read out left new x)
ask_ends i old (Err failure) read out left new x = tt

-- an edit that was done ends with a version
pub edit_ends : (i : ℕ) (bytes : List ℕ) (old : Client) (result : Result Event CommandError) (read out : List ℕ) (left : Option (List ℕ)) (new : Client)
    → ComesTo old (Edit i bytes) result read out left new → IfOk result IsDoneVersion
edit_ends i bytes old (Ok e) read out left new x =
    version_of_edit i bytes old.state e x.answered.0 (ends (Edit i bytes) old e read out left new x)
edit_ends i bytes old (Err failure) read out left new x = tt

-- so does an append
pub addition_ends : (bytes : List ℕ) (old : Client) (result : Result Event CommandError) (read out : List ℕ) (left : Option (List ℕ)) (new : Client)
    → ComesTo old (Append bytes) result read out left new → IfOk result IsDoneVersion
addition_ends bytes old (Ok e) read out left new x =
    version_of_addition bytes old.state e x.answered.0 (ends (Append bytes) old e read out left new x)
addition_ends bytes old (Err failure) read out left new x = tt

-- so does a publication
pub publication_ends : (old : Client) (result : Result Event CommandError) (read out : List ℕ) (left : Option (List ℕ)) (new : Client)
    → ComesTo old Publish result read out left new → IfOk result IsDoneVersion
publication_ends old (Ok e) read out left new x = version_of_publication old.state e x.answered.0 (ends Publish old e read out left new x)
publication_ends old (Err failure) read out left new x = tt
