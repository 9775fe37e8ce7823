pub mod Planes
pub mod Numbers
pub mod Spans
pub mod Streams
pub mod Rooms
pub mod Traces
pub mod Counting
pub mod Layouts
