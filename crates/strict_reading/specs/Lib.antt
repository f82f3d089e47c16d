pub mod StrictReading
