pub mod StringOrder
