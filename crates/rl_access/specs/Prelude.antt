-- The words that the contracts of this crate use, passed on from one place. Declares nothing.
pub use Rattle.rl_bus.specs.Causes.{HasCause}
pub use Rattle.rl_bus.specs.Standing.{Standing, standing_at}
pub use Rattle.rl_bus.specs.State.{poked, hw_set, reset_by}
pub use Rattle.rl_bus.specs.Wire.{Fits}
pub use Rattle.rl_map.specs.Layout.{IsLocation, place_at}
pub use Rattle.rl_map.specs.Maps.{IsBuiltWith}
pub use Rattle.rl_mirror.specs.Compared.{differ}
pub use Rattle.rl_mirror.specs.Mirror.{marks_in}
pub use Rattle.rl_mirror.specs.Prediction.{fresh, left_by_read, needs_update, predict_raw, predict_read, predict_write, reset, set, shown, update_word_of, written}
pub use Rattle.rl_model.specs.Fields.{count_of, field_of, fields_of, first_of, size_of}
pub use Rattle.rl_split.specs.Access.{IsChoice, all_bytes, bus_bytes_of, kind_of, ops_of}
pub use Rattle.rl_split.specs.Narrow.{bytes_of_field}
pub use Rattle.rl_split.specs.Outgoing.{IsOutgoingOn, outgoing_ops, words_in}
pub use Rattle.rl_access.specs.Access.{HasBytes, IsAccessOn, IsBrought, IsFieldIn, IsPlaceFor, IsValueWithin, outgoing_of}
pub use Rattle.rl_access.specs.Backdoor.{IsFound, IsFoundAt, IsReadBehind}
pub use Rattle.rl_access.specs.Call.{Does, IsReadBy, IsWrittenBy, Performs, PerformsAlone, PerformsOffBus, StaysOffBus, scene_of}
pub use Rattle.rl_access.specs.Event.{EventFits, IsEndWithin, IsTold, ItemFits}
pub use Rattle.rl_access.specs.Gathering.{IsNothingGathered}
pub use Rattle.rl_access.specs.Items.{AreItemsOf, AreSent, adapter_for, failed_at, port_for, words_answered}
pub use Rattle.rl_access.specs.Model.{IsDeviceOf, IsModel, IsReady, IsSameChip, ModelData}
pub use Rattle.rl_access.specs.Observed.{observing}
pub use Rattle.rl_access.specs.Operation.{HasNumbers, IsMapIn, digits_of, ends_done, ends_with_value, field_digits, has_end, is_off_bus, is_on_memory, is_single, location_size, reg_of, register_of}
pub use Rattle.rl_access.specs.Rules.{access_ops, end_in_field, field_alone, field_read, field_written, forgetting}
pub use Rattle.rl_access.specs.Rules.{forgetting_field, grant, is_alone, location_bytes, outgoing_at, location_value, map_of_place}
pub use Rattle.rl_access.specs.Rules.{event_of, memory_event, memory_size, only_where, or_error, quiet, read_outcome, register_event, taking_raw, value_differs, value_of, whole, write_outcome}
