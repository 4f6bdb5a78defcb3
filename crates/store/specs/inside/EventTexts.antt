-- What the tables are told of an event.
use Rattle.names.specs.declared.commit.Event.{Event}
use Rattle.names.specs.declared.commit.EventKind.{EventKind}
use Rattle.names.specs.declared.commit.EventKind.TheVariants.{Put, Del}
use Rattle.tables.specs.declared.puts.Puts.{Puts}
use Rattle.tables.specs.declared.puts.Puts.TheVariants.{Absent, Any}
use Rattle.sqlite_tables.specs.declared.stored.SpanChange.{SpanChange}
use Rattle.sqlite_tables.specs.declared.stored.SpanChange.TheVariants.{Begins, BeginsAnew, Ends}
use Rattle.sqlite_tables.specs.declared.stored.StoredEvent as stored
use Rattle.sqlite_tables.specs.Stored as texts
use Rattle.sqlite_tables.specs.Tables.{Span}
use Rattle.store.specs.Written.{span_of}

-- a put ends no span where its tuple is not there
abbrev pub put_change : Puts → SpanChange
put_change Absent = Begins
put_change Any = BeginsAnew

abbrev pub change_of : Puts → EventKind → SpanChange
change_of puts Put = put_change puts
change_of puts Del = Ends

-- the change to the tuple's spans, and the tuple's texts
abbrev pub event_texts : Puts → Event → SpanChange × Span
event_texts puts e = (change_of puts e.kind, span_of (record { tuple = e.tuple; added = 0; removed = 0 }))

abbrev pub event_texts_in : stored.StoredEvent → SpanChange × Span
event_texts_in e = (e.change, texts.span_between e.tuple 0 0)
